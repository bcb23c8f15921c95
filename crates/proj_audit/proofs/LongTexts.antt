-- A text that is longer than a workspace's file may be gives no items.
use Rattle.std.proofs.Common.{◌≡◌, ◌<◌, Bool, true, false, cond, ◌&&◌, refl, sym, ap, ◌∙◌, [], length, Option, Some, None, arith}
use Rattle.std.proofs.lemmas.Bool.Decides.{nat_tests}
use Rattle.std.specs.Prelude.{if◌then◌else◌, nat_le, not, unwrap_or}
use Rattle.std.specs.Option.{option_and_then}
use Rattle.git_objects.specs.Paths.{Bytes, Path}
use Rattle.git_objects.specs.Trees.{FileLeaf, ExecLeaf}
use Rattle.git_objects.specs.declared.limits.TheConstants.{FILTER_PIECES, WORKSPACE_BYTES}
use Rattle.filter_text.specs.Items.{items, items_of, members}
use Rattle.filter_text.specs.Limits.{too_deep}
use Rattle.filter_routes.specs.SoundTests.{is_sound}
use Rattle.workspace.specs.Workspaces.{Split, split, leaf_items, listed, put_in, text_of, with_leaf}
use Rattle.workspace.proofs.Readable.{with-none, with-split}
use Rattle.proj_audit.specs.Shown.{GiveSameItems, items_value}
use Rattle.proj_audit.specs.declared.showing.ItemsText.{ItemsText}

long_items : (t : Bytes) → WORKSPACE_BYTES < length t → items t ≡ None
unfolding items
long_items t h = ap (λ b. cond (b && not (too_deep t)) (option_and_then (items_of FILTER_PIECES) (members t)) None) too_long
  where
    too_long : nat_le (length t) WORKSPACE_BYTES ≡ false
    too_long = grind (arith, nat_tests, h)

leaf_text : (x : ItemsText) → text_of (items_value x) ≡ Some x.bytes.now
leaf_text x = by x.executable
  where
    by : (b : Bool) → text_of (if b then ExecLeaf x.bytes.now else FileLeaf x.bytes.now) ≡ Some x.bytes.now
    by true = refl
    by false = refl

long_leaf : (w : Path) (x : ItemsText) → WORKSPACE_BYTES < length x.bytes.now → leaf_items w (Some (items_value x)) ≡ leaf_items w None
long_leaf w x h =
    ap (λ r. unwrap_or (option_and_then (λ is. if is_sound (listed w is) then Some is else None) r) [])
    (ap (option_and_then items) (leaf_text x) ∙ long_items x.bytes.now h)

-- such a text is as good as none
pub long_text : (x : ItemsText) → WORKSPACE_BYTES < length x.bytes.now → GiveSameItems None (Some x)
long_text x h f = by (split f) refl
  where
    by : (o : Option Split) → split f ≡ o → with_leaf f None ≡ with_leaf f (Some (items_value x))
    by None e = with-none f None e ∙ sym (with-none f (Some (items_value x)) e)
    by (Some s) e =
        with-split f s None e
        ∙ ap (λ is. put_in s (listed s.directory is)) (sym (long_leaf s.directory x h))
        ∙ sym (with-split f s (Some (items_value x)) e)
