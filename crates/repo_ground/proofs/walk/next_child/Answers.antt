use Rattle.std.proofs.Common.{List, [], ◌∷◌, ◌++◌, sym, ap, subst, ◌∙◌}
use Rattle.git_objects.specs.Views.{entry_value}
use Rattle.git_objects.specs.declared.entry.Entry.{Entry}
use Rattle.git_objects.specs.declared.mode.Mode.{Mode}
use Rattle.object_store.specs.Objects.{has_child, HasChildren, body_of}
use Rattle.repo_ground.specs.StoredObjects.{child_steps, counted, entries_steps, itself}
use Rattle.git_objects.specs.declared.kind.Kind.TheVariants.{Blob}
use Rattle.repo_ground.specs.StoredObjects.{tree_steps}
use Rattle.repo_ground.proofs.Walks.{first-entry}
use Rattle.object_store.proofs.Children.{dir-child, first-child}
use Rattle.repo_ground.proofs.walk.next_child.Goals as goal

pub returns-in-File-clause-children : goal.returns-in-File-clause-children
returns-in-File-clause-children c = λ S h.
    let g = first-child S c.entries.entries (entry_value c.in-Some.entry) c.in-Some.ensures.entry (c.entries.invariant.children S h) in
    (ap (λ (m : Mode). has_child S m c.in-Some.entry.name.0) (sym c.in-File.is) ∙ g.0, subst (λ (es : List Entry). HasChildren S es) (sym c.in-Some.ensures.rest) g.1)

pub returns-in-Exec-clause-children : goal.returns-in-Exec-clause-children
returns-in-Exec-clause-children c = λ S h.
    let g = first-child S c.entries.entries (entry_value c.in-Some.entry) c.in-Some.ensures.entry (c.entries.invariant.children S h) in
    (ap (λ (m : Mode). has_child S m c.in-Some.entry.name.0) (sym c.in-Exec.is) ∙ g.0, subst (λ (es : List Entry). HasChildren S es) (sym c.in-Some.ensures.rest) g.1)

pub returns-in-Link-clause-children : goal.returns-in-Link-clause-children
returns-in-Link-clause-children c = λ S h.
    let g = first-child S c.entries.entries (entry_value c.in-Some.entry) c.in-Some.ensures.entry (c.entries.invariant.children S h) in
    (ap (λ (m : Mode). has_child S m c.in-Some.entry.name.0) (sym c.in-Link.is) ∙ g.0, subst (λ (es : List Entry). HasChildren S es) (sym c.in-Some.ensures.rest) g.1)

pub returns-in-Dir-clause-children : goal.returns-in-Dir-clause-children
returns-in-Dir-clause-children c = λ S h.
    let g = first-child S c.entries.entries (entry_value c.in-Some.entry) c.in-Some.ensures.entry (c.entries.invariant.children S h) in
    (dir-child S c.in-Some.entry.mode c.in-Some.entry.name.0 c.in-Dir.is g.0, subst (λ (es : List Entry). HasChildren S es) (sym c.in-Some.ensures.rest) g.1)

pub entries-preserved : goal.entries-preserved
entries-preserved c =
    let es = c.entries.entries in
    let e = entry_value c.in-Some.entry in
    record {
      objects = λ S. c.entries.invariant.objects S ∙ first-entry itself [] S es e c.in-Some.ensures.entry
          ∙ (λ i. child_steps itself [] (body_of Blob S) (tree_steps itself [] S) (c.in-Module.is i) e.name.0 ++ entries_steps itself [] S (sym c.in-Some.ensures.rest i));
      children = λ S h. subst (λ (es : List Entry). HasChildren S es) (sym c.in-Some.ensures.rest) (first-child S es e c.in-Some.ensures.entry (c.entries.invariant.children S h)).1;
      work = λ S. c.entries.invariant.work S ∙ first-entry counted (tt ∷ []) S es e c.in-Some.ensures.entry
          ∙ (λ i. child_steps counted (tt ∷ []) (body_of Blob S) (tree_steps counted (tt ∷ []) S) (c.in-Module.is i) e.name.0 ++ entries_steps counted (tt ∷ []) S (sym c.in-Some.ensures.rest i));
    }
