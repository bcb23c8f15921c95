use Rattle.std.proofs.Common.{inl, inr, ◌≡◌, ◌+◌, ◌-◌, ℕ, true, List, [], ◌∷◌, ◌++◌, length, refl, sym, ap, subst, append_assoc, ◌∙◌, arith}
use Rattle.std.specs.Prelude.{slice_range}
use Rattle.std.specs.List.{list_all}
use Rattle.git_objects.specs.Views.{entry_value}
use Rattle.git_objects.specs.Bodies.{is_name}
use Rattle.git_objects.specs.Entries.{AreEntries, body_text}
use Rattle.git_objects.specs.declared.entry.Entry.{Entry}
use Rattle.std.proofs.lemmas.List.Elements.{All-nil, All-same}
use Rattle.std.proofs.lemmas.Result.{err_from_is_err_and}
use Rattle.stage_nodes.specs.declared.nodes.Link.TheVariants.{First}
use Rattle.stage_nodes.specs.Directories.{has_number}
use Rattle.stage_nodes.specs.Expanding.{AreChildren}
use Rattle.stage_nodes.specs.Pools.{hanging}
use Rattle.stage_nodes.proofs.Parting.{first_is, long_name, part_of}
use Rattle.path_trees.specs.Listed.{found}
use Rattle.stage_nodes.proofs.Starting.{added_is_last, last_before}
use Rattle.stage_nodes.proofs.Expanding.{nothing_filled, entry_absent, entry_directory, entry_valid, children_more, one_filled, same_filled}
use Rattle.stage_nodes.proofs.nodes.Nodes.fill_parts.Goals as goal

pub entries-init : goal.entries-init
entries-init c = record { done = []; whole = refl; filling = nothing_filled c.args.self.now c.args.directory c.requires.directory; front = c.requires.bytes.0; left = c.requires.bytes.1; children = All-same (λ k. has_number k (hanging c.args.self.now (First c.args.directory)) ≡ true) c.in_ok-children.children.items [] c.in_ok-children.ensures.items (All-nil (λ k. has_number k (hanging c.args.self.now (First c.args.directory)) ≡ true)); last = inl c.in_ok-children.ensures.items }

pub add_child-requires-clause-directory : goal.add_child-requires-clause-directory
add_child-requires-clause-directory c =
    let first = first_is c.entries.entries c.next.new.self (entry_value c.in-Some.entry) c.in-Some.ensures.entry c.in-Some.ensures.rest in
    let whole = ap (λ (es : List Entry). c.entries.invariant.done ++ es) (sym first) ∙ c.entries.invariant.whole in
    let valid = subst AreEntries (sym whole) c.requires.entries in
    entry_directory c.args.self.now c.entries.self c.entries.self c.args.directory (entry_value c.in-Some.entry) c.entries.invariant.done c.next.new.self c.entries.invariant.filling valid

pub add_child-requires-clause-children : goal.add_child-requires-clause-children
add_child-requires-clause-children c = c.entries.invariant.children

pub add_child-requires-clause-last : goal.add_child-requires-clause-last
add_child-requires-clause-last c = λ h.
    let first = first_is c.entries.entries c.next.new.self (entry_value c.in-Some.entry) c.in-Some.ensures.entry c.in-Some.ensures.rest in
    let whole = ap (λ (es : List Entry). c.entries.invariant.done ++ es) (sym first) ∙ c.entries.invariant.whole in
    let valid = subst AreEntries (sym whole) c.requires.entries in
    last_before c.entries.self c.entries.invariant.done c.next.new.self (entry_value c.in-Some.entry) c.entries.children.items c.entries.last_len c.entries.invariant.last valid (c.keeps_behind-is_behind.ensures h)

pub add_child-requires-clause-component : goal.add_child-requires-clause-component
add_child-requires-clause-component c =
    let first = first_is c.entries.entries c.next.new.self (entry_value c.in-Some.entry) c.in-Some.ensures.entry c.in-Some.ensures.rest in
    let whole = ap (λ (es : List Entry). c.entries.invariant.done ++ es) (sym first) ∙ c.entries.invariant.whole in
    let valid = subst AreEntries (sym whole) c.requires.entries in
    entry_valid c.args.self.now c.entries.self c.entries.self c.args.directory (entry_value c.in-Some.entry) c.entries.invariant.done c.next.new.self c.entries.invariant.filling valid

pub add_child-requires-clause-absent : goal.add_child-requires-clause-absent
add_child-requires-clause-absent c =
    let first = first_is c.entries.entries c.next.new.self (entry_value c.in-Some.entry) c.in-Some.ensures.entry c.in-Some.ensures.rest in
    let whole = ap (λ (es : List Entry). c.entries.invariant.done ++ es) (sym first) ∙ c.entries.invariant.whole in
    let valid = subst AreEntries (sym whole) c.requires.entries in
    entry_absent c.args.self.now c.entries.self c.entries.self c.args.directory (entry_value c.in-Some.entry) c.entries.invariant.done c.next.new.self c.entries.invariant.filling valid

pub add_child-requires-clause-within : goal.add_child-requires-clause-within
add_child-requires-clause-within c =
    let first = first_is c.entries.entries c.next.new.self (entry_value c.in-Some.entry) c.in-Some.ensures.entry c.in-Some.ensures.rest in
    let whole = ap (λ (es : List Entry). c.entries.invariant.done ++ es) (sym first) ∙ c.entries.invariant.whole in
    let long = long_name c.entries.invariant.done c.next.new.self (entry_value c.in-Some.entry) (subst (λ (es : List Entry). list_all (λ e. is_name e.name.0) es ≡ true) (sym whole) c.requires.names) in
    let part = part_of c.entries.self.names.items c.entries.invariant.front (entry_value c.in-Some.entry) c.next.new.self (c.entries.invariant.left ∙ ap (λ (es : List Entry). c.entries.invariant.front ++ body_text es) first) long in
    let bytes : length c.bytes.result.now ≡ length (body_text c.next.new.self) = ap length c.bytes.ensures in
    omega (arith, part.long, bytes, c.len.ensures)

pub add_child-requires-clause-part : goal.add_child-requires-clause-part
add_child-requires-clause-part c =
    let first = first_is c.entries.entries c.next.new.self (entry_value c.in-Some.entry) c.in-Some.ensures.entry c.in-Some.ensures.rest in
    let whole = ap (λ (es : List Entry). c.entries.invariant.done ++ es) (sym first) ∙ c.entries.invariant.whole in
    let long = long_name c.entries.invariant.done c.next.new.self (entry_value c.in-Some.entry) (subst (λ (es : List Entry). list_all (λ e. is_name e.name.0) es ≡ true) (sym whole) c.requires.names) in
    let part = part_of c.entries.self.names.items c.entries.invariant.front (entry_value c.in-Some.entry) c.next.new.self (c.entries.invariant.left ∙ ap (λ (es : List Entry). c.entries.invariant.front ++ body_text es) first) long in
    let bytes : length c.bytes.result.now ≡ length (body_text c.next.new.self) = ap length c.bytes.ensures in
    let at : c.len.result - length c.bytes.result.now - 21 - length c.in-Some.entry.component.now ≡ part.before = omega (arith, part.long, bytes, c.len.ensures) in
    (λ i. slice_range c.entries.self.names.items (at i) (at i + length c.in-Some.entry.component.now)) ∙ part.part

pub overflow_sub-end-in-Some : goal.overflow_sub-end-in-Some
overflow_sub-end-in-Some c =
    let first = first_is c.entries.entries c.next.new.self (entry_value c.in-Some.entry) c.in-Some.ensures.entry c.in-Some.ensures.rest in
    let whole = ap (λ (es : List Entry). c.entries.invariant.done ++ es) (sym first) ∙ c.entries.invariant.whole in
    let long = long_name c.entries.invariant.done c.next.new.self (entry_value c.in-Some.entry) (subst (λ (es : List Entry). list_all (λ e. is_name e.name.0) es ≡ true) (sym whole) c.requires.names) in
    let part = part_of c.entries.self.names.items c.entries.invariant.front (entry_value c.in-Some.entry) c.next.new.self (c.entries.invariant.left ∙ ap (λ (es : List Entry). c.entries.invariant.front ++ body_text es) first) long in
    let bytes : length c.bytes.result.now ≡ length (body_text c.next.new.self) = ap length c.bytes.ensures in
    omega (arith, part.long, bytes, c.len.ensures)

pub overflow_sub-at : goal.overflow_sub-at
overflow_sub-at c =
    let first = first_is c.entries.entries c.next.new.self (entry_value c.in-Some.entry) c.in-Some.ensures.entry c.in-Some.ensures.rest in
    let whole = ap (λ (es : List Entry). c.entries.invariant.done ++ es) (sym first) ∙ c.entries.invariant.whole in
    let long = long_name c.entries.invariant.done c.next.new.self (entry_value c.in-Some.entry) (subst (λ (es : List Entry). list_all (λ e. is_name e.name.0) es ≡ true) (sym whole) c.requires.names) in
    let part = part_of c.entries.self.names.items c.entries.invariant.front (entry_value c.in-Some.entry) c.next.new.self (c.entries.invariant.left ∙ ap (λ (es : List Entry). c.entries.invariant.front ++ body_text es) first) long in
    let bytes : length c.bytes.result.now ≡ length (body_text c.next.new.self) = ap length c.bytes.ensures in
    omega (arith, part.long, bytes, c.len.ensures)

pub entries-preserved : goal.entries-preserved
entries-preserved c =
    let first = first_is c.entries.entries c.next.new.self (entry_value c.in-Some.entry) c.in-Some.ensures.entry c.in-Some.ensures.rest in
    let whole = ap (λ (es : List Entry). c.entries.invariant.done ++ es) (sym first) ∙ c.entries.invariant.whole in
    let valid = subst AreEntries (sym whole) c.requires.entries in
    let long = long_name c.entries.invariant.done c.next.new.self (entry_value c.in-Some.entry) (subst (λ (es : List Entry). list_all (λ e. is_name e.name.0) es ≡ true) (sym whole) c.requires.names) in
    let part = part_of c.entries.self.names.items c.entries.invariant.front (entry_value c.in-Some.entry) c.next.new.self (c.entries.invariant.left ∙ ap (λ (es : List Entry). c.entries.invariant.front ++ body_text es) first) long in
    record {
      done = c.entries.invariant.done ++ (entry_value c.in-Some.entry) ∷ [];
      whole = append_assoc c.entries.invariant.done ((entry_value c.in-Some.entry) ∷ []) c.next.new.self ∙ whole;
      filling = one_filled c.args.self.now c.entries.self c.add_child.new.self c.args.directory (entry_value c.in-Some.entry) c.entries.invariant.done c.next.new.self c.entries.invariant.filling valid c.in_ok-number.number c.in_ok-number.ensures.ok;
      front = part.front;
      left = c.add_child.ensures.names ∙ part.left;
      children = subst (λ (ks : List ℕ). AreChildren c.add_child.new.self c.args.directory ks) (sym c.in_ok-push.ensures.items) (children_more c.args.self.now c.entries.self c.add_child.new.self c.args.directory (entry_value c.in-Some.entry) c.entries.invariant.done c.next.new.self c.entries.invariant.filling valid c.in_ok-number.number c.in_ok-number.ensures.ok c.add_child.new.children.items c.add_child.ensures.children);
      last = inr (added_is_last c.entries.self c.add_child.new.self c.args.directory (found (entry_value c.in-Some.entry)) c.in_ok-number.number c.entries.invariant.done (entry_value c.in-Some.entry) _ c.add_child.new.children.items (length c.in-Some.entry.component.now) c.in_ok-number.ensures.ok c.in_ok-push.ensures.items refl);
    }

pub returns-in_err-number-clause-err : goal.returns-in_err-number-clause-err
returns-in_err-number-clause-err c =
    let p = err_from_is_err_and c.from_residual-in_err-number.result c.from_residual-in_err-number.ensures.1 in
    rw (p.1) (record { done = c.entries.invariant.done; filling = same_filled c.args.self.now c.entries.self c.add_child.new.self c.args.directory c.entries.invariant.done c.entries.invariant.filling c.in_err-number.ensures.err })

pub returns-in_err-number-clause-ok : goal.returns-in_err-number-clause-ok
returns-in_err-number-clause-ok c = let p = err_from_is_err_and c.from_residual-in_err-number.result c.from_residual-in_err-number.ensures.1 in rw (p.1) tt

pub returns-in_err-children-clause-err : goal.returns-in_err-children-clause-err
returns-in_err-children-clause-err c =
    let p = err_from_is_err_and c.from_residual.result c.from_residual.ensures.1 in
    rw (p.1) (record { done = []; filling = nothing_filled c.args.self.now c.args.directory c.requires.directory })

pub returns-in_err-push-clause-err : goal.returns-in_err-push-clause-err
returns-in_err-push-clause-err c =
    let p = err_from_is_err_and c.from_residual-in_err-push.result c.from_residual-in_err-push.ensures.1 in
    let first = first_is c.entries.entries c.next.new.self (entry_value c.in-Some.entry) c.in-Some.ensures.entry c.in-Some.ensures.rest in
    let whole = ap (λ (es : List Entry). c.entries.invariant.done ++ es) (sym first) ∙ c.entries.invariant.whole in
    let valid = subst AreEntries (sym whole) c.requires.entries in
    rw (p.1) (record { done = c.entries.invariant.done ++ (entry_value c.in-Some.entry) ∷ []; filling = one_filled c.args.self.now c.entries.self c.add_child.new.self c.args.directory (entry_value c.in-Some.entry) c.entries.invariant.done c.next.new.self c.entries.invariant.filling valid c.in_ok-number.number c.in_ok-number.ensures.ok })

pub returns-clause-err : goal.returns-clause-err
returns-clause-err c = tt
