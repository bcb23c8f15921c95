use Rattle.std.proofs.Common.{◌≡◌, true, None, List, ap, sym, ◌∙◌}
use Rattle.tag_objects.specs.TagLists.{put_tag, rise}
use Rattle.tag_objects.specs.declared.tag.Tag.{Tag}
use Rattle.fast_import.specs.Replaying.{is_behind}
use Rattle.fast_import.proofs.PutTags.{behind-rises, put-behind, put-rises}
use Rattle.fast_import.proofs.tags.Tags.put.Goals as goal

pub invariant_of-self : goal.invariant_of-self
invariant_of-self c =
    put-rises c.put_tag.result c.args.tag c.self.inside.tags.items c.put_tag.new.tags.items c.self.invariant c.put_tag.ensures.ok c.put_tag.ensures.err

pub invariant_of-self-2 : goal.invariant_of-self-2
invariant_of-self-2 c =
    let us : List Tag = c.self.inside.tags.items in
    let t : Tag = c.args.tag in
    let above : is_behind t.name us ≡ true = ap (is_behind t.name) (sym c.deref.ensures.value) ∙ sym c.is_behind.ensures ∙ c.if-not-is_behind.false in
    ap (rise None) c.in_ok-push.ensures.items ∙ behind-rises us t c.self.invariant above

pub returns-clause-ok : goal.returns-clause-ok
returns-clause-ok c =
    let us : List Tag = c.self.inside.tags.items in
    let t : Tag = c.args.tag in
    let above : is_behind t.name us ≡ true = ap (is_behind t.name) (sym c.deref.ensures.value) ∙ sym c.is_behind.ensures ∙ c.if-not-is_behind.false in
    c.in_ok-push.ensures.items ∙ put-behind us t c.self.invariant above ∙ ap (put_tag t) c.self.view_is
