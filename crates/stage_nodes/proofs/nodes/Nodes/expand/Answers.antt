use Rattle.std.proofs.Common.{◌≡◌, ap, ◌∙◌, arith}
use Rattle.stage_nodes.proofs.Seeking.{inside_link}
use Rattle.std.proofs.lemmas.Option.{slice_get_within}
use Rattle.std.specs.Prelude.{slice_set}
use Rattle.stage_nodes.specs.declared.nodes.Node.{Node}
use Rattle.stage_nodes.specs.declared.nodes.Content.TheVariants.{Open}
use Rattle.stage_nodes.specs.Expanding.{IsFilling, IsPartly}
use Rattle.path_trees.proofs.Trees.{stored_good}
use Rattle.path_trees.proofs.Walks.{listed_good}
use Rattle.stage_nodes.proofs.Opening.{open_directory, expanded, can_free, wasted, failed, went, read_node}
use Rattle.stage_nodes.proofs.nodes.Nodes.expand.Goals as goal

pub fill-requires-clause-directory : goal.fill-requires-clause-directory
fill-requires-clause-directory c =
    let s = c.args.self.now in
    let cl : c.index-closed.result.now ≡ c.requires.node.node = read_node s.cells.items c.args.number c.index-closed.result.now c.requires.node.node c.index-closed.ensures c.requires.node.there in
    open_directory s c.set.new.self c.args.number c.args.name.now c.requires.node
    (c.set.ensures.cells ∙ ap (λ (x : Node). slice_set s.cells.items c.args.number (record x { content = Open })) cl) (ap (λ v. v.items) c.set.ensures.names) c.set.ensures.free

pub fill-requires-clause-entries : goal.fill-requires-clause-entries
fill-requires-clause-entries c = (listed_good c.args.store.now c.args.name.now.0 c.entries_at-entries.result c.entries_at-entries.ensures.store c.requires.tree c.entries_at-entries.ensures.listed).0.entries

pub fill-requires-clause-names : goal.fill-requires-clause-names
fill-requires-clause-names c =
    let good = listed_good c.args.store.now c.args.name.now.0 c.entries_at-entries.result c.entries_at-entries.ensures.store c.requires.tree c.entries_at-entries.ensures.listed in
    (stored_good c.args.store.now c.entries_at-entries.result good.0).names

pub free_all-requires : goal.free_all-requires
free_all-requires c =
    let s = c.args.self.now in
    let cl : c.index-closed.result.now ≡ c.requires.node.node = read_node s.cells.items c.args.number c.index-closed.result.now c.requires.node.node c.index-closed.ensures c.requires.node.there in
    can_free s c.set.new.self c.args.number c.args.name.now c.requires.node
    (c.set.ensures.cells ∙ ap (λ (x : Node). slice_set s.cells.items c.args.number (record x { content = Open })) cl) (ap (λ v. v.items) c.set.ensures.names) c.set.ensures.free
    c.fill.new.self c.set-then-is_err.new.self c.set-then-is_err.new.self
    (failed c.fill.result (IsPartly c.set.new.self c.fill.new.self c.args.number) (cc) c.fill.ensures.err)
    (c.set-then-is_err.ensures.cells ∙ ap (slice_set c.fill.new.self.cells.items c.args.number) cl) (ap (λ v. v.items) c.set-then-is_err.ensures.names) c.set-then-is_err.ensures.free
    c.target-first.result c.target-first.ensures

pub returns-then-is_err-clause-err : goal.returns-then-is_err-clause-err
returns-then-is_err-clause-err c =
    let s = c.args.self.now in
    let cl : c.index-closed.result.now ≡ c.requires.node.node = read_node s.cells.items c.args.number c.index-closed.result.now c.requires.node.node c.index-closed.ensures c.requires.node.there in
    wasted s c.set.new.self c.args.number c.args.name.now c.requires.node
    (c.set.ensures.cells ∙ ap (λ (x : Node). slice_set s.cells.items c.args.number (record x { content = Open })) cl) (ap (λ v. v.items) c.set.ensures.names) c.set.ensures.free
    c.fill.new.self c.set-then-is_err.new.self c.free_all.new.self
    (failed c.fill.result (IsPartly c.set.new.self c.fill.new.self c.args.number) (cc) c.fill.ensures.err)
    (c.set-then-is_err.ensures.cells ∙ ap (slice_set c.fill.new.self.cells.items c.args.number) cl) (ap (λ v. v.items) c.set-then-is_err.ensures.names) c.set-then-is_err.ensures.free
    c.target-first.result c.target-first.ensures c.free_all.ensures

pub returns-clause-ok : goal.returns-clause-ok
returns-clause-ok c =
    let s = c.args.self.now in
    let cl : c.index-closed.result.now ≡ c.requires.node.node = read_node s.cells.items c.args.number c.index-closed.result.now c.requires.node.node c.index-closed.ensures c.requires.node.there in
    let good = listed_good c.args.store.now c.args.name.now.0 c.entries_at-entries.result c.entries_at-entries.ensures.store c.requires.tree c.entries_at-entries.ensures.listed in
    expanded s c.set.new.self c.args.number c.args.name.now c.requires.node
    (c.set.ensures.cells ∙ ap (λ (x : Node). slice_set s.cells.items c.args.number (record x { content = Open })) cl) (ap (λ v. v.items) c.set.ensures.names) c.set.ensures.free
    c.args.store.now c.fill.new.self c.entries_at-entries.result good.0 good.1
    (went c.fill.result (IsFilling c.set.new.self c.fill.new.self c.args.number c.entries_at-entries.result) (cc) c.fill.ensures.ok)

pub returns-then-is_err-clause-ok : goal.returns-then-is_err-clause-ok
returns-then-is_err-clause-ok c = tt

pub returns-then-is_err-clause-store : goal.returns-then-is_err-clause-store
returns-then-is_err-clause-store c = c.entries_at-entries.ensures.store

pub returns-clause-err : goal.returns-clause-err
returns-clause-err c = tt

pub returns-clause-store : goal.returns-clause-store
returns-clause-store c = c.entries_at-entries.ensures.store

pub index-closed-requires : goal.index-closed-requires
index-closed-requires c = omega (arith, slice_get_within c.args.self.now.cells.items c.args.number c.requires.node.node c.requires.node.there)

pub set-requires : goal.set-requires
set-requires c = inside_link c.args.self.now.names.items c.args.self.now.cells.items c.args.number (slice_get_within c.args.self.now.cells.items c.args.number c.requires.node.node c.requires.node.there)
