use Rattle.std.proofs.Common.{◌≡◌, ◌⊎◌, inl, inr, ⊎_elim, ◌∙◌, List, [], Result, Ok, Err, false, ap, sym}
use Rattle.std.specs.Prelude.{OnOk}
use Rattle.std.specs.Result.{is_err}
use Rattle.git_objects.specs.Paths.{Bytes}
use Rattle.git_objects.specs.declared.name.Name.{Name}
use Rattle.indexmap.specs.IndexMap.{insert_entry}
use Rattle.fast_export.specs.Given.{is_named}
use Rattle.fast_export.specs.Known.{IsAdded}
use Rattle.fast_export.specs.declared.known.Lines.{Lines}
use Rattle.fast_export.proofs.known.KnownLines.add.Goals as goal

-- what was put is there, behind what was left of the others
put_there : {E : Type 0} (r : Result Unit E) (n : Name) (front text : Bytes) (old room new : List (Name × Lines)) → is_err r ≡ false → (room ≡ old) ⊎ (room ≡ [])
    → OnOk r ((l : Lines) × (l.front.items ≡ front) × (l.text.items ≡ text) × (new ≡ insert_entry is_named room n l)) → IsAdded n front text old new
put_there (Err e) n front text old room new f m p = absurd cc
put_there (Ok x) n front text old room new f m (l, a, b, e) =
    inr (l, a, b, ⊎_elim (λ s. inl (e ∙ ap (λ es. insert_entry is_named es n l) s)) (λ s. inr (e ∙ ap (λ es. insert_entry is_named es n l) s)) m)

pub returns-else-is_err : goal.returns-else-is_err
returns-else-is_err c = put_there c.put.result c.args.tree c.args.front.now c.args.text.now c.args.self.now c.make_room.new.self c.put.new.self (sym c.is_err.ensures.value ∙ c.if-is_err.false) c.make_room.ensures c.put.ensures
