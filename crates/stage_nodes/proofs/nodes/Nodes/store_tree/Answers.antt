use Rattle.std.proofs.Common.{◌≡◌, List, [], map, sym, ap, subst, ◌∙◌, None, Some}
use Rattle.git_objects.specs.Bodies.{tree_entries}
use Rattle.git_objects.specs.Entries.{body_text}
use Rattle.git_objects.specs.Views.{entry_value}
use Rattle.git_objects.specs.declared.entry.Entry.{Entry}
use Rattle.git_objects.specs.declared.kind.Kind.TheVariants.{Tree}
use Rattle.object_store.specs.Puts.{of_body}
use Rattle.path_trees.proofs.Trees.{good_fits, good_read}
use Rattle.stage_nodes.specs.Closing.{gathered}
use Rattle.stage_nodes.specs.Leaves.{is_held}
use Rattle.stage_nodes.specs.Pools.{hanging}
use Rattle.stage_nodes.specs.declared.nodes.Link.TheVariants.{First}
use Rattle.stage_nodes.proofs.Closing.{gathered_good}
use Rattle.stage_nodes.proofs.OnWay.{sound_any}
use Rattle.stage_nodes.proofs.nodes.Nodes.store_tree.Goals as goal

pub entries-requires : goal.entries-requires
entries-requires c =
    let h = c.requires.tips in
    record { link = h.link; walk = h.walk; tips = h.tips; sound = sound_any (is_held c.args.store.now) (hanging c.args.self.now (First c.args.directory)) h.sound }

pub taken_entries-requires-clause-read : goal.taken_entries-requires-clause-read
taken_entries-requires-clause-read c =
    let S = c.args.store.now in
    let K = hanging c.args.self.now (First c.args.directory) in
    let whole : map entry_value c.deref.result.now ≡ gathered [] K = ap (map entry_value) c.deref.ensures.value ∙ c.in-Ok.ensures in
    subst (λ (es : List Entry). tree_entries (body_text es) ≡ Some es) (sym whole)
    (good_read S (gathered [] K) (gathered_good S K [] c.requires.tips.tips c.requires.tips.sound (record { entries = tt; held = tt })))

pub taken_entries-requires-clause-held : goal.taken_entries-requires-clause-held
taken_entries-requires-clause-held c =
    let S = c.args.store.now in
    let K = hanging c.args.self.now (First c.args.directory) in
    let whole : map entry_value c.deref.result.now ≡ gathered [] K = ap (map entry_value) c.deref.ensures.value ∙ c.in-Ok.ensures in
    ap (λ (es : List Entry). of_body S Tree (body_text es) None) whole
    ∙ good_fits S (gathered [] K) (gathered_good S K [] c.requires.tips.tips c.requires.tips.sound (record { entries = tt; held = tt }))

pub returns-in-Err-clause-ok : goal.returns-in-Err-clause-ok
returns-in-Err-clause-ok c = tt
