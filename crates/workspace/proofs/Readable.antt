-- Whether the items of a text make a sound filter.
use Rattle.std.specs.Prelude.{◌≡◌, refl, ℕ, Bool, true, false, if◌then◌else◌, List, [], Option, Some, None, Result, Ok, Err, is_none, unwrap_or, IfOk, IfSome, IfNone}
use Rattle.std.specs.Option.{option_and_then, option_map_or}
use Rattle.std.proofs.Common.{ap, ◌∙◌, sym, subst, true≢false}
use Rattle.git_objects.specs.Lists.{Each}
use Rattle.git_objects.specs.Paths.{Path}
use Rattle.git_objects.specs.Trees.{Leaf}
use Rattle.filter_text.specs.Filters.{Filter, Filters, no_more, more, append}
use Rattle.filter_text.specs.Items.{Item, IsMadeOfPaths, items}
use Rattle.filter_text.specs.Reading.{linked}
use Rattle.filter_routes.specs.Interned.{Interns}
use Rattle.filter_routes.specs.Soundness.{IsSound, AreSound}
use Rattle.filter_routes.specs.SoundTests.{is_sound}
use Rattle.filter_routes.specs.TableValues.{Table}
use Rattle.filter_routes.proofs.SoundLemmas.{the_law as sound_law}
use Rattle.workspace.specs.Laws.{IsUsable}
use Rattle.workspace.specs.Views.{AreUsable}
use Rattle.workspace.specs.Workspaces.{Split, split, leaf_items, listed, put_in, readable_items, text_of, with_leaf}
use Rattle.workspace.proofs.Usable.{directory-path, list-usable, listed-paths, put-usable}

-- ---- a sound filter has a sound list

linked-sound : (fs : Filters) → IsSound (linked fs) → AreSound fs
linked-sound no_more h = tt
linked-sound (more f no_more) h = (h, tt)
linked-sound (more f (more g fs)) h = h

behind-sound : (fs gs : Filters) → AreSound (append fs gs) → AreSound gs
behind-sound no_more gs h = h
behind-sound (more f fs) gs h = behind-sound fs gs h.1

list-sound : (s : Split) (l : Filter) → IsSound (put_in s l) → IsSound l
list-sound s l h = (behind-sound s.before (more l s.behind) (linked-sound (append s.before (more l s.behind)) h)).0

pub whole-usable : (s : Split) (l : Filter) → AreUsable s → IsUsable l → IsUsable (put_in s l)
whole-usable s l u h = put-usable u.0 s l u.1 u.2 h

pub bare-usable : (s : Split) → AreUsable s → IsUsable (put_in s (listed s.directory []))
bare-usable s u = whole-usable s (listed s.directory []) u (list-usable s.directory None (directory-path u.0 s u.1 u.2))

-- ---- what a leaf gives

given : (w : Path) (x : Leaf) (is : List Item) (b : Bool) → option_and_then items (text_of x) ≡ Some is → is_sound (listed w is) ≡ b → readable_items w x ≡ (if b then Some is else None)
given w x is b e h =
    ap (option_and_then (λ (js : List Item). if is_sound (listed w js) then Some js else None)) e
    ∙ ap (λ c. if c then Some is else None) h

module _ (s : Split) (x : Leaf) (is : List Item) (u : AreUsable s) (e : option_and_then items (text_of x) ≡ Some is) (p : Each IsMadeOfPaths is) where
  paths : IsUsable (listed s.directory is) → IsSound (put_in s (listed s.directory is))
  paths h = (whole-usable s (listed s.directory is) u h).sound

  is-usable : is_sound (listed s.directory is) ≡ true → IsUsable (listed s.directory is)
  is-usable h =
      let v = listed-paths s.directory is (directory-path u.0 s u.1 u.2) p in
      record { paths = v; sound = (sound_law (listed s.directory is) v).0 h }

  pub items-held : IsSound (put_in s (listed s.directory is)) → readable_items s.directory x ≡ Some is
  items-held h =
      let v = listed-paths s.directory is (directory-path u.0 s u.1 u.2) p in
      given s.directory x is true e ((sound_law (listed s.directory is) v).1 (list-sound s (listed s.directory is) h))

  pub items-refused : (IsSound (put_in s (listed s.directory is)) → ⊥) → readable_items s.directory x ≡ None
  items-refused h = by (is_sound (listed s.directory is)) refl
    where
      by : (b : Bool) → is_sound (listed s.directory is) ≡ b → readable_items s.directory x ≡ None
      by true k = absurd (h (paths (is-usable k)))
      by false k = given s.directory x is false e k

  -- ---- the number that is told

  module _ (old new : List Table) (g : Filter) (is-whole : g ≡ put_in s (listed s.directory is)) where
    pub number-told : {E : Type 0} (r : Result (Option ℕ) E) → IfOk r (λ o. IfSome o (Interns old new g)) → IfOk r (λ o. IfSome o (λ n. IsSound g))
        → IfOk r (λ o. IfSome o (Interns old new (put_in s (listed s.directory (leaf_items s.directory (Some x))))))
    number-told (Err f) h k = h
    number-told (Ok None) h k = h
    number-told (Ok (Some n)) h k =
        subst (λ f. Interns old new f n)
        (is-whole ∙ ap (λ js. put_in s (listed s.directory js)) (sym (ap (λ o. unwrap_or o []) (items-held (subst IsSound is-whole k))))) h

    pub readable-told : {E : Type 0} (r : Result (Option ℕ) E) → IfOk r (λ o. IfSome o (λ n. IsSound g)) → IfOk r (λ o. IfNone o ((IsSound g → ⊥) × (new ≡ old)))
        → IfOk r (λ o. is_none o ≡ is_none (readable_items s.directory x))
    readable-told (Err f) h k = h
    readable-told (Ok None) h k = sym (ap is_none (items-refused (λ z. k.0 (subst IsSound (sym is-whole) z))))
    readable-told (Ok (Some n)) h k = sym (ap is_none (items-held (subst IsSound is-whole h)))

-- ---- the filter for a leaf

pub with-none : (f : Filter) (x : Option Leaf) → split f ≡ None → with_leaf f x ≡ f
unfolding with_leaf
with-none f x e = ap (λ o. option_map_or (λ s. put_in s (listed s.directory (leaf_items s.directory x))) o f) e

pub with-split : (f : Filter) (s : Split) (x : Option Leaf) → split f ≡ Some s → with_leaf f x ≡ put_in s (listed s.directory (leaf_items s.directory x))
unfolding with_leaf
with-split f s x e = ap (λ o. option_map_or (λ s. put_in s (listed s.directory (leaf_items s.directory x))) o f) e

none-read : (o : Option (List Item)) → is_none o ≡ true → unwrap_or o [] ≡ []
none-read None h = refl
none-read (Some is) h = absurd (true≢false (sym h))

-- a leaf that gives no items is like none
pub with-unread : (f : Filter) (s : Split) (x : Leaf) → split f ≡ Some s → is_none (readable_items s.directory x) ≡ true → with_leaf f (Some x) ≡ put_in s (listed s.directory [])
with-unread f s x e h = with-split f s (Some x) e ∙ ap (λ js. put_in s (listed s.directory js)) (none-read (readable_items s.directory x) h)
