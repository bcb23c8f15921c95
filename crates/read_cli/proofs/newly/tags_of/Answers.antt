-- Proves what src/newly.rt needs of `tags_of`.
use Rattle.std.proofs.Common.{◌∙◌, ◌++◌, ◌<◌, [], List, filter, length, map, ap, sym, append-nil, arith}
use Rattle.std.specs.Vec.Iter.{into_iter_items}
use Rattle.git_objects.specs.Parts.{name_bytes}
use Rattle.git_objects.specs.declared.name.Name.{Name}
use Rattle.fast_export.specs.ExportTexts.{is_among}
use Rattle.incremental_export.proofs.WantedNames.{more_added, name_added, next_name}
use Rattle.tag_objects.specs.declared.tag.Tag.{Tag}
use Rattle.read_cli.proofs.Tagging.{among, kept, passed}
use Rattle.read_cli.proofs.newly.tags_of.Goals as goal

abbrev unread : Name
unread = record { 0 = [] }

pub loop-commit-init : goal.loop-commit-init
loop-commit-init c n =
    ap (λ ks. is_among n (map name_bytes c.args.commits.now ++ map name_bytes ks)) c.new-names.ensures.empty
    ∙ ap (is_among n) (append-nil (map name_bytes c.args.commits.now))

pub loop-commit-preserved : goal.loop-commit-preserved
loop-commit-preserved c =
    let within : c.loop-commit.commit-index < length c.args.commits.now = omega arith in
    more_added (map name_bytes c.args.commits.now) c.loop-commit.commit-index _ (map name_bytes c.loop-commit.names.keys) (map name_bytes c.insert.new.self.keys) _
    (next_name c.args.commits.now c.loop-commit.commit-index unread within) c.loop-commit.invariant
    (λ m. ap (λ ks. is_among m (map name_bytes ks)) c.in_ok-insert.ensures.keys ∙ name_added c.loop-commit.names.keys _ m)

pub loop-tag-init : goal.loop-tag-init
loop-tag-init c =
    let h = c.into_iter-tag-iterator.ensures.into_iter_gives in
    let test = λ (t : Tag). is_among t.target.0 (map name_bytes c.args.commits.now) in
    record {
      left = ap (λ (ts : List Tag). ts ++ filter test (into_iter_items c.into_iter-tag-iterator.result)) c.new-left.ensures.items ∙ ap (filter test) h.0;
      len = omega (arith, h.1, ap length h.0);
    }

pub loop-tag-preserved-in-Continue-branch-2 : goal.loop-tag-preserved-in-Continue-branch-2
loop-tag-preserved-in-Continue-branch-2 c =
    let h = c.in-Some.ensures.steps in
    let test = λ (t : Tag). is_among t.target.0 (map name_bytes c.args.commits.now) in
    record {
      left = kept test (filter test c.args.tags.items) c.loop-tag.left.items (into_iter_items c.next.new.self) (into_iter_items c.loop-tag.tag-iterator) c.in-Some.tag h.0 c.loop-tag.invariant.left
          (among c.in-Some.tag.target c.args.commits.now c.loop-commit.names.keys c.loop-commit.commit-index c.loop-commit-test.false c.loop-commit.invariant
          (sym c.contains.ensures ∙ c.if-contains.true)) c.push.new.self.items c.in_ok-push.ensures.items;
      len = omega (arith, h.1, ap length h.0, c.loop-tag.invariant.len);
    }

pub loop-tag-preserved : goal.loop-tag-preserved
loop-tag-preserved c =
    let h = c.in-Some.ensures.steps in
    let test = λ (t : Tag). is_among t.target.0 (map name_bytes c.args.commits.now) in
    record {
      left = passed test (filter test c.args.tags.items) c.loop-tag.left.items (into_iter_items c.next.new.self) (into_iter_items c.loop-tag.tag-iterator) c.in-Some.tag h.0 c.loop-tag.invariant.left
          (among c.in-Some.tag.target c.args.commits.now c.loop-commit.names.keys c.loop-commit.commit-index c.loop-commit-test.false c.loop-commit.invariant
          (sym c.contains.ensures ∙ c.if-contains.false));
      len = omega (arith, h.1, ap length h.0, c.loop-tag.invariant.len);
    }
