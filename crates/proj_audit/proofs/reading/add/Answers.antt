use Rattle.std.proofs.Common.{◌≡◌, [], ◌∷◌, ◌++◌, List, Bool, Option, Some, None, refl, sym, ap, subst, ◌∙◌}
use denote.Bor.{Bor}
use Rattle.std.proofs.lemmas.List.{map-append}
use Rattle.std.specs.Option.{is_some, option_copied}
use Rattle.std.specs.Map.{lookup}
use Rattle.indexmap.proofs.CallerLemmas.{insert_entry-new}
use Rattle.git_objects.specs.Paths.{same_bytes}
use Rattle.git_objects.specs.declared.name.Name.{Name}
use Rattle.object_store.specs.Errors.{object_value}
use Rattle.object_store.specs.Objects.{Object, find_named}
use Rattle.object_store.specs.declared.store.ObjectRef.{ObjectRef}
use Rattle.proj_audit.specs.Reads.{AreNamed, mapped_objects}
use Rattle.proj_audit.proofs.ObjectsRead.{find-mapped, known-again, is_some-map, is_none, named-new}
use Rattle.proj_audit.proofs.reading.add.Goals as goal

abbrev same : Name → Name → Bool
same x y = same_bytes x.0 y.0

still : (w : Option (Bor ObjectRef)) → is_some (option_copied w) ≡ is_some w
still None = refl
still (Some x) = refl

pub returns-then-is_some-clause-found : goal.returns-then-is_some-clause-found
returns-then-is_some-clause-found c =
    known-again (mapped_objects c.args.found.now.entries) (object_value c.args.object)
    (ap (λ n. is_some (find_named (mapped_objects c.args.found.now.entries) n)) (sym c.name_of-name.ensures)
    ∙ ap is_some (find-mapped c.args.found.now.entries c.name_of-name.result c.requires)
    ∙ is_some-map object_value (lookup (same c.name_of-name.result) c.args.found.now.entries)
    ∙ ap is_some (sym c.get.ensures.value)
    ∙ still c.get.result
    ∙ sym c.is_some.ensures
    ∙ c.if-is_some.true)

module _ (c : goal.In-Ok) where
  absent : lookup (same c.name_of-name.result) c.args.found.now.entries ≡ None
  absent =
      sym c.get.ensures.value
      ∙ is_none (option_copied c.get.result) (still c.get.result ∙ sym c.is_some.ensures ∙ c.if-is_some.false)

  entries : c.insert.new.self.entries ≡ c.args.found.now.entries ++ (c.name_of-name.result, c.args.object) ∷ []
  entries = c.in-Ok.ensures.entries ∙ insert_entry-new same c.args.found.now c.name_of-name.result c.args.object absent

pub returns-in-Ok-clause-named : goal.returns-in-Ok-clause-named
returns-in-Ok-clause-named c =
    subst AreNamed (sym (entries c)) (named-new c.args.found.now.entries c.name_of-name.result c.args.object c.requires (sym c.name_of-name.ensures))

pub returns-in-Ok-clause-found : goal.returns-in-Ok-clause-found
returns-in-Ok-clause-found c n =
    ap (λ es. find_named (mapped_objects es) n) (entries c)
    ∙ ap (λ (S : List Object). find_named S n)
    (map-append (λ (e : Name × ObjectRef). object_value e.1) c.args.found.now.entries ((c.name_of-name.result, c.args.object) ∷ []))
