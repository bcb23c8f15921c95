use Rattle.std.proofs.Common.{sym, subst}
use Rattle.object_store.specs.Errors.{object_value}
use Rattle.proj_audit.specs.Reads.{AreNamed, mapped_objects}
use Rattle.proj_audit.proofs.ObjectsRead.{IsRead, read-first, object-shorter, read-more}
use Rattle.proj_audit.proofs.reading.read.Goals as goal

pub objects-init : goal.objects-init
objects-init c = record {
  named = subst AreNamed (sym c.new-found.ensures.empty) tt;
  read =
      subst (λ es. IsRead c.args.text.now (mapped_objects es) c.in-Some.rest.now) (sym c.new-found.ensures.empty)
      (read-first c.args.text.now c.in-Some.rest.now (sym c.in-Some.ensures));
}

pub objects-preserved : goal.objects-preserved
objects-preserved c = record {
  named = c.in_ok-add.ensures.named;
  read =
      read-more c.args.text.now c.objects.rest.now c.in-Some-next_object.after.now (mapped_objects c.objects.found.entries)
      (mapped_objects c.add.new.found.entries)
      (object_value c.in-Some-next_object.object) c.objects.invariant.read (sym c.in-Some-next_object.ensures) c.in_ok-add.ensures.found;
}

pub objects-smaller : goal.objects-smaller
objects-smaller c =
    object-shorter c.objects.rest.now c.in-Some-next_object.after.now (object_value c.in-Some-next_object.object) (sym c.in-Some-next_object.ensures)
