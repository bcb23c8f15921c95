use Rattle.std.proofs.Common.{◌≡◌, ◌∙◌, true, ◌+◌, slice_get, get_or, List, Option, Some, IfSome, sym, ap, subst}
use Rattle.std.specs.Option.{option_map}
use Rattle.git_objects.specs.Trees.{Flat, rests, standing}
use Rattle.git_objects.specs.Entries.{is_dir}
use Rattle.object_store.specs.Objects.{has_child}
use Rattle.object_store.specs.Unfolding.{flat, StandsFor}
use Rattle.object_store.proofs.Unfolding.{flat_good}
use Rattle.path_trees.specs.Levels.{IsDirectory}
use Rattle.path_trees.specs.Standing.{node}
use Rattle.path_trees.specs.declared.found.Found.{Found}
use Rattle.path_trees.proofs.Placed.{got}
use Rattle.decision_lists.specs.Entries.{Entry}
use Rattle.decision_lists.specs.Hits.{target_of}
use Rattle.filter_text.specs.Shapes.{shape}
use Rattle.filter_cache.specs.Memos.{Key, same_key}
use Rattle.filter_cache.proofs.Lookups.{key-is}
use Rattle.filter_apply.specs.Parts.{base_in, rests_of, routed}
use Rattle.filter_apply.specs.Ranges.{seen_between}
use Rattle.filter_apply.proofs.Places.{dir_held, dir_node}
use Rattle.filter_apply.proofs.Shows.{all_seen_by, dead, nothing_seen, routed_seen}
use Rattle.filter_apply.proofs.Truths.{after_get, after_put, in-found, true_less, true_grown, true_routed, keeps_less, keeps_more, keeps_then, routed-now}
use Rattle.filter_apply.proofs.routes.shown_by.Goals as goal

pub returns-in_default-clause-ok : goal.returns-in_default-clause-ok
returns-in_default-clause-ok g c =
    let S = c.args.store.now in
    let t = flat S c.args.root.0 in
    let f = shape c.args.table.now.filter in
    let tree = (flat_good S c.store_law.ensures.store c.args.root.0 c.requires.root).tree in
    let es = c.args.table.now.routes in
    let e = c.index-entries-route.result in
    let get : slice_get es c.args.route ≡ Some e = got es c.args.route e c.requires.route (c.index-entries-route.is ∙ ap (λ (ds : List Entry). get_or ds c.args.route e) c.entries.ensures.entries) in
    dead f es c.entries.ensures.list c.entries.ensures.sound c.entries.ensures.paths t tree c.args.route e get S (ap (λ (x : Entry). x.1) (sym c.entry.view_is) ∙ ap (option_map (λ v. v.items)) c.in_default.is)

pub returns-in_default-found-clause-ok : goal.returns-in_default-found-clause-ok
returns-in_default-found-clause-ok g c =
    let S = c.args.store.now in
    let t = flat S c.args.root.0 in
    let f = shape c.args.table.now.filter in
    let tree = (flat_good S c.store_law.ensures.store c.args.root.0 c.requires.root).tree in
    let es = c.args.table.now.routes in
    let e = c.index-entries-route.result in
    let get : slice_get es c.args.route ≡ Some e = got es c.args.route e c.requires.route (c.index-entries-route.is ∙ ap (λ (ds : List Entry). get_or ds c.args.route e) c.entries.ensures.entries) in
    let target : e.1 ≡ Some c.in-Some.target.items = ap (λ (x : Entry). x.1) (sym c.entry.view_is) ∙ ap (option_map (λ v. v.items)) c.in-Some.is in
    nothing_seen f es c.entries.ensures.list c.entries.ensures.sound c.entries.ensures.paths t tree c.args.route e get c.in-Some.target.items target S c.store_law.ensures.store
    (ap (option_map (node S)) (sym c.in_default-found.is) ∙ c.requires.found.stands)

pub made_at-requires-clause-target : goal.made_at-requires-clause-target
made_at-requires-clause-target g c =
    let es = c.args.table.now.routes in
    let e = c.index-entries-route.result in
    let get : slice_get es c.args.route ≡ Some e = got es c.args.route e c.requires.route (c.index-entries-route.is ∙ ap (λ (ds : List Entry). get_or ds c.args.route e) c.entries.ensures.entries) in
    let target : e.1 ≡ Some c.in-Some.target.items = ap (λ (x : Entry). x.1) (sym c.entry.view_is) ∙ ap (option_map (λ v. v.items)) c.in-Some.is in
    ap target_of get ∙ target ∙ ap Some (sym c.as_slice-target.ensures.value)

pub made_at-requires-2-clause-target : goal.made_at-requires-2-clause-target
made_at-requires-2-clause-target g c =
    let es = c.args.table.now.routes in
    let e = c.index-entries-route.result in
    let get : slice_get es c.args.route ≡ Some e = got es c.args.route e c.requires.route (c.index-entries-route.is ∙ ap (λ (ds : List Entry). get_or ds c.args.route e) c.entries.ensures.entries) in
    let target : e.1 ≡ Some c.in-Some.target.items = ap (λ (x : Entry). x.1) (sym c.entry.view_is) ∙ ap (option_map (λ v. v.items)) c.in-Some.is in
    ap target_of get ∙ target ∙ ap Some (sym c.as_slice-target.ensures.value)

pub returns-then-not-is_dir-clause-ok : goal.returns-then-not-is_dir-clause-ok
returns-then-not-is_dir-clause-ok g c =
    let S = c.args.store.now in
    let t = flat S c.args.root.0 in
    let f = shape c.args.table.now.filter in
    let tree = (flat_good S c.store_law.ensures.store c.args.root.0 c.requires.root).tree in
    let es = c.args.table.now.routes in
    let e = c.index-entries-route.result in
    let get : slice_get es c.args.route ≡ Some e = got es c.args.route e c.requires.route (c.index-entries-route.is ∙ ap (λ (ds : List Entry). get_or ds c.args.route e) c.entries.ensures.entries) in
    let target : e.1 ≡ Some c.in-Some.target.items = ap (λ (x : Entry). x.1) (sym c.entry.view_is) ∙ ap (option_map (λ v. v.items)) c.in-Some.is in
    let stands : Some (node S c.in-Some-found.base) ≡ standing t (base_in (slice_get es c.args.route)) = ap (option_map (node S)) (sym c.in-Some-found.is) ∙ c.requires.found.stands in
    all_seen_by f es c.entries.ensures.list c.entries.ensures.sound c.entries.ensures.paths t tree c.args.route e get c.in-Some.target.items target (rests (node S c.in-Some-found.base)) (ap rests_of stands) c.made_at.new.store c.made_at.ensures.store.store c.made_at.result c.made_at.ensures.ok

pub returns-then-not-is_dir-clause-true_now : goal.returns-then-not-is_dir-clause-true_now
returns-then-not-is_dir-clause-true_now g c =
    true_grown c.args.table.now c.args.id c.args.store.now c.made_at.new.store c.args.memo.now c.made_at.ensures.store c.requires.memo

pub returns-in-Some-get-clause-ok : goal.returns-in-Some-get-clause-ok
returns-in-Some-get-clause-ok g c =
    let S = c.args.store.now in
    let t = flat S c.args.root.0 in
    let f = shape c.args.table.now.filter in
    let tree = (flat_good S c.store_law.ensures.store c.args.root.0 c.requires.root).tree in
    let es = c.args.table.now.routes in
    let e = c.index-entries-route.result in
    let get : slice_get es c.args.route ≡ Some e = got es c.args.route e c.requires.route (c.index-entries-route.is ∙ ap (λ (ds : List Entry). get_or ds c.args.route e) c.entries.ensures.entries) in
    let target : e.1 ≡ Some c.in-Some.target.items = ap (λ (x : Entry). x.1) (sym c.entry.view_is) ∙ ap (option_map (λ v. v.items)) c.in-Some.is in
    let stands : Some (node S c.in-Some-found.base) ≡ standing t (base_in (slice_get es c.args.route)) = ap (option_map (node S)) (sym c.in-Some-found.is) ∙ c.requires.found.stands in
    let dir : is_dir c.in-Some-found.base.mode ≡ true = sym c.is_dir.ensures ∙ c.if-not-is_dir.false in
    let is : rests (node S c.in-Some-found.base) ≡ flat S c.in-Some-found.base.name.0 = ap rests (dir_node S c.in-Some-found.base.mode c.in-Some-found.base.name.0 dir) in
    let k : Key = ((c.args.id, c.args.route + 1), c.in-Some-found.base.name.0) in
    let name = c.in-Some-get.name in
    let holds = in-found same_key key-is k c.args.memo.now.entries name.0 (sym c.in-Some-get.ensures.found) in
    routed_seen f es c.entries.ensures.list c.entries.ensures.sound c.entries.ensures.paths t tree c.args.route e get c.in-Some.target.items target (flat S c.in-Some-found.base.name.0) (sym is ∙ ap rests_of stands) S c.store_law.ensures.store (Some name)
    (c.requires.memo.routes c.args.route c.in-Some-found.base.name.0 name.0 holds).seen

pub returns-in-Some-get-clause-true_now : goal.returns-in-Some-get-clause-true_now
returns-in-Some-get-clause-true_now g c =
    let k : Key = ((c.args.id, c.args.route + 1), c.in-Some-found.base.name.0) in
    let less = after_get c.args.memo.now c.get.new.self k c.get.ensures.used in
    true_less c.args.table.now c.args.id c.args.store.now c.args.memo.now c.get.new.self less c.requires.memo

pub returns-in-Some-get-clause-others : goal.returns-in-Some-get-clause-others
returns-in-Some-get-clause-others g c =
    let k : Key = ((c.args.id, c.args.route + 1), c.in-Some-found.base.name.0) in
    let less = after_get c.args.memo.now c.get.new.self k c.get.ensures.used in
    keeps_less c.args.id c.args.memo.now c.get.new.self less

pub returns-in_err-shown-clause-true_now : goal.returns-in_err-shown-clause-true_now
returns-in_err-shown-clause-true_now g c =
    let k : Key = ((c.args.id, c.args.route + 1), c.in-Some-found.base.name.0) in
    let less = after_get c.args.memo.now c.get.new.self k c.get.ensures.used in
    let now = true_grown c.args.table.now c.args.id c.args.store.now c.made_at-2.new.store c.args.memo.now c.in_err-shown.ensures.store c.requires.memo in
    true_less c.args.table.now c.args.id c.made_at-2.new.store c.args.memo.now c.get.new.self less now

pub returns-in_default-shown-clause-true_now : goal.returns-in_default-shown-clause-true_now
returns-in_default-shown-clause-true_now g c =
    let k : Key = ((c.args.id, c.args.route + 1), c.in-Some-found.base.name.0) in
    let less = after_get c.args.memo.now c.get.new.self k c.get.ensures.used in
    let now = true_grown c.args.table.now c.args.id c.args.store.now c.made_at-2.new.store c.args.memo.now c.in_ok-shown.ensures.store c.requires.memo in
    true_less c.args.table.now c.args.id c.made_at-2.new.store c.args.memo.now c.get.new.self less now

pub returns-in_err-shown-clause-others : goal.returns-in_err-shown-clause-others
returns-in_err-shown-clause-others g c =
    let k : Key = ((c.args.id, c.args.route + 1), c.in-Some-found.base.name.0) in
    let less = after_get c.args.memo.now c.get.new.self k c.get.ensures.used in
    keeps_less c.args.id c.args.memo.now c.get.new.self less

pub returns-in_default-shown-clause-others : goal.returns-in_default-shown-clause-others
returns-in_default-shown-clause-others g c =
    let k : Key = ((c.args.id, c.args.route + 1), c.in-Some-found.base.name.0) in
    let less = after_get c.args.memo.now c.get.new.self k c.get.ensures.used in
    keeps_less c.args.id c.args.memo.now c.get.new.self less

pub returns-in-Some-shown-clause-ok : goal.returns-in-Some-shown-clause-ok
returns-in-Some-shown-clause-ok g c =
    let S = c.args.store.now in
    let t = flat S c.args.root.0 in
    let f = shape c.args.table.now.filter in
    let tree = (flat_good S c.store_law.ensures.store c.args.root.0 c.requires.root).tree in
    let es = c.args.table.now.routes in
    let e = c.index-entries-route.result in
    let get : slice_get es c.args.route ≡ Some e = got es c.args.route e c.requires.route (c.index-entries-route.is ∙ ap (λ (ds : List Entry). get_or ds c.args.route e) c.entries.ensures.entries) in
    let target : e.1 ≡ Some c.in-Some.target.items = ap (λ (x : Entry). x.1) (sym c.entry.view_is) ∙ ap (option_map (λ v. v.items)) c.in-Some.is in
    let stands : Some (node S c.in-Some-found.base) ≡ standing t (base_in (slice_get es c.args.route)) = ap (option_map (node S)) (sym c.in-Some-found.is) ∙ c.requires.found.stands in
    let seen = routed_seen f es c.entries.ensures.list c.entries.ensures.sound c.entries.ensures.paths t tree c.args.route e get c.in-Some.target.items target (rests (node S c.in-Some-found.base)) (ap rests_of stands) c.made_at-2.new.store c.in_ok-shown.ensures.store.store c.in_ok-shown.shown c.in_ok-shown.ensures.ok in
    subst (IsDirectory c.made_at-2.new.store (seen_between f es c.args.route (c.args.route + 1) t)) c.in-Some-shown.is seen

pub returns-in_default-shown-clause-ok : goal.returns-in_default-shown-clause-ok
returns-in_default-shown-clause-ok g c =
    let S = c.args.store.now in
    let t = flat S c.args.root.0 in
    let f = shape c.args.table.now.filter in
    let tree = (flat_good S c.store_law.ensures.store c.args.root.0 c.requires.root).tree in
    let es = c.args.table.now.routes in
    let e = c.index-entries-route.result in
    let get : slice_get es c.args.route ≡ Some e = got es c.args.route e c.requires.route (c.index-entries-route.is ∙ ap (λ (ds : List Entry). get_or ds c.args.route e) c.entries.ensures.entries) in
    let target : e.1 ≡ Some c.in-Some.target.items = ap (λ (x : Entry). x.1) (sym c.entry.view_is) ∙ ap (option_map (λ v. v.items)) c.in-Some.is in
    let stands : Some (node S c.in-Some-found.base) ≡ standing t (base_in (slice_get es c.args.route)) = ap (option_map (node S)) (sym c.in-Some-found.is) ∙ c.requires.found.stands in
    routed_seen f es c.entries.ensures.list c.entries.ensures.sound c.entries.ensures.paths t tree c.args.route e get c.in-Some.target.items target (rests (node S c.in-Some-found.base)) (ap rests_of stands) c.made_at-2.new.store c.in_ok-shown.ensures.store.store c.in_ok-shown.shown c.in_ok-shown.ensures.ok

pub returns-in-Some-shown-clause-true_now : goal.returns-in-Some-shown-clause-true_now
returns-in-Some-shown-clause-true_now g c =
    let S = c.args.store.now in
    let S' = c.made_at-2.new.store in
    let es = c.args.table.now.routes in
    let tree = c.in-Some-found.base.name.0 in
    let shown = c.in-Some-shown.name.0 in
    let dir : is_dir c.in-Some-found.base.mode ≡ true = sym c.is_dir.ensures ∙ c.if-not-is_dir.false in
    let is : rests (node S c.in-Some-found.base) ≡ flat S c.in-Some-found.base.name.0 = ap rests (dir_node S c.in-Some-found.base.mode c.in-Some-found.base.name.0 dir) in
    let k : Key = ((c.args.id, c.args.route + 1), c.in-Some-found.base.name.0) in
    let less = after_get c.args.memo.now c.get.new.self k c.get.ensures.used in
    let now = true_grown c.args.table.now c.args.id c.args.store.now c.made_at-2.new.store c.args.memo.now c.in_ok-shown.ensures.store c.requires.memo in
    let child = subst (λ (o : Option Found). IfSome o (λ d. has_child S d.mode d.name.0 ≡ true)) c.in-Some-found.is c.requires.found.held in
    let held = dir_held S c.in-Some-found.base.mode tree dir child in
    let made = subst (λ (u : Flat). StandsFor S' shown (routed es c.args.route u)) is (subst (IsDirectory S' (routed es c.args.route (rests (node S c.in-Some-found.base)))) c.in-Some-shown.is c.in_ok-shown.ensures.ok) in
    true_routed c.args.table.now c.args.id S' c.args.route tree shown c.get.new.self c.put.new.self (after_put c.get.new.self c.put.new.self k shown c.put.ensures.entered)
    (routed-now c.args.store.now S' c.in_ok-shown.ensures.store c.args.table.now c.args.route tree shown held made)
    (true_less c.args.table.now c.args.id S' c.args.memo.now c.get.new.self less now)

pub returns-in-Some-shown-clause-others : goal.returns-in-Some-shown-clause-others
returns-in-Some-shown-clause-others g c =
    let k : Key = ((c.args.id, c.args.route + 1), c.in-Some-found.base.name.0) in
    let less = after_get c.args.memo.now c.get.new.self k c.get.ensures.used in
    let shown = c.in-Some-shown.name.0 in
    keeps_then c.args.id c.args.memo.now c.get.new.self c.put.new.self (keeps_less c.args.id c.args.memo.now c.get.new.self less)
    (keeps_more c.args.id (c.args.route + 1) c.in-Some-found.base.name.0 shown c.get.new.self c.put.new.self (after_put c.get.new.self c.put.new.self k shown c.put.ensures.entered))
