-- Proves what src/keep.rt needs of `kept_news`.
use Rattle.std.proofs.Common.{refl, ◌≡◌, ◌<◌, ◌≤◌, Option, Some, None, Bool, true, false, length, arith, sym, ap, subst, ◌∙◌, true≢false}
use Rattle.std.specs.Option.{is_some}
use Rattle.git_objects.specs.Paths.{Bytes}
use Rattle.git_objects.specs.declared.limits.TheConstants.{ITEM_BYTES}
use Rattle.commit_map.specs.Shown.{entry_values}
use Rattle.std.proofs.lemmas.List.{length-map}
use Rattle.commit_map.specs.Shown.{entry_value}
use Rattle.state_items.specs.Changes.{passed_by_item, passed_by_objects}
use Rattle.state_items.specs.Items.{is_canonical, kept_text}
use Rattle.state_items.proofs.Canonicals.{canonical-law}
use Rattle.repo_ground.specs.Contents.{room_in}
use Rattle.repo_ground.proofs.Keeping.{kept-long, news-named}
use Rattle.repo_ground.proofs.Rules.{may-append}
use Rattle.repo_ground.proofs.state.State.kept_news.Goals as goal

not-some : {A : Type 0} (o : Option A) (b : Bool) → b ≡ is_some o → b ≡ false → o ≡ None
not-some None b e f = refl
not-some (Some x) b e f = absurd (true≢false (sym e ∙ f))

-- src/keep.rt:82:20
pub kept_item-requires-clause-short : goal.kept_item-requires-clause-short
kept_item-requires-clause-short c =
    let canonical : is_canonical c.in_ok-text.text.items ≡ true = ap is_canonical (sym c.deref.ensures.value) ∙ sym c.in_ok-is_canonical.ensures ∙ c.if-not-branch.false in
    subst (λ (t : Bytes). length t < 65536) (sym c.deref-4.ensures.value) (canonical-law.of_text c.in_ok-text.text.items canonical).1.short

-- src/keep.rt:82:20
pub kept_item-requires-clause-few : goal.kept_item-requires-clause-few
kept_item-requires-clause-few c =
    let h = c.requires.spells.0 in
    let bytes : Bytes = kept_text 1 c.deref-2.result.now (entry_values c.deref-3.result.now) in
    let told = c.is_passed.ensures h bytes c.requires.spells.1 (c.kept_size-size.ensures.size 1) in
    let none = not-some (passed_by_objects h.objects (passed_by_item (room_in c.args.self.now) bytes)) c.is_passed.result told c.if-is_passed.false in
    let short : length bytes ≤ ITEM_BYTES = (may-append h.objects (room_in c.args.self.now) bytes none).item in
    let long : length (entry_values c.deref-3.result.now) ≤ length bytes = kept-long 1 c.deref-2.result.now (entry_values c.deref-3.result.now) in
    let same : length (entry_values c.deref-3.result.now) ≡ length c.deref-3.result.now = length-map c.deref-3.result.now entry_value in
    let here : length c.deref-5.result.now ≡ length c.deref-3.result.now = ap length (c.deref-5.ensures.value ∙ sym c.deref-3.ensures.value) in
    omega (arith, short, long, same, here)

-- src/keep.rt:96:13
pub returns-then-is_passed-clause-named : goal.returns-then-is_passed-clause-named
returns-then-is_passed-clause-named c = λ e.
    news-named c.requires.spells.0 c.args.self.now c.deref-2.result.now c.deref-3.result.now c.kept_size-size.result c.requires.spells.1
    (ap is_canonical (c.deref-2.ensures.value ∙ c.in_ok-text.ensures) ∙ e) (ap entry_values c.deref-3.ensures.value ∙ c.in_ok-news.ensures) c.kept_size-size.ensures.few c.kept_size-size.ensures.named

-- src/keep.rt:79:5
pub returns-clause-named : goal.returns-clause-named
returns-clause-named c = λ e.
    news-named c.requires.spells.0 c.args.self.now c.deref-2.result.now c.deref-3.result.now c.kept_size-size.result c.requires.spells.1
    (ap is_canonical (c.deref-2.ensures.value ∙ c.in_ok-text.ensures) ∙ e) (ap entry_values c.deref-3.ensures.value ∙ c.in_ok-news.ensures) c.kept_size-size.ensures.few c.kept_size-size.ensures.named
