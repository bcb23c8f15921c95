-- What is asked of a state, by its reading.
use Rattle.std.proofs.Common.{◌≡◌, Bool, true, List, [], map, Result, Ok, Err, refl, sym, ap, subst, ◌∙◌}
use Rattle.std.specs.Prelude.{IfErr, IfOk, flat_map}
use Rattle.std.specs.Global.{Vec}
use Rattle.std.specs.Option.{option_to_list}
use Rattle.std.specs.Result.{result_ok}
use Rattle.git_objects.specs.Lists.{Each}
use Rattle.git_objects.specs.Parts.{name_bytes}
use Rattle.git_objects.specs.Paths.{Bytes}
use Rattle.git_objects.specs.Results.{◌>>=◌}
use Rattle.git_objects.specs.Snapshots.{tree_at}
use Rattle.git_objects.specs.declared.name.Name.{Name}
use Rattle.object_store.specs.Objects.{Object}
use Rattle.filter_text.specs.Filters.{Filter}
use Rattle.filter_text.specs.Shapes.{shape}
use Rattle.proj_io.specs.Views.{SinkView}
use Rattle.state_items.specs.Changes.{with_refs}
use Rattle.state_items.specs.Items.{Held}
use Rattle.state_items.specs.Repos.{repo}
use Rattle.repo_ground.specs.Contents.{Contents, Spells}
use Rattle.proj_words.specs.declared.outcome.Outcome.{Outcome}
use Rattle.proj_words.specs.declared.outcome.Outcome.TheVariants.{OutOfMemory, Usage}
use Rattle.proj_commands.specs.Cases.{head_of}
use Rattle.proj_commands.specs.Export.{export_hand}
use Rattle.proj_commands.specs.Filters.{sound}
use Rattle.proj_commands.specs.Hands.{Hand, seen_hand, still_hand}
use Rattle.proj_commands.specs.Lines.{ref_line}
use Rattle.proj_commands.specs.Judging.{IsOwn}
use Rattle.proj_commands.proofs.Refusing.{sound-own}
use Rattle.read_cli.specs.Answers.{IsLawful, IsNewLawful, IsReadBackUpon, OfHead}
use Rattle.read_cli.specs.Looks.{IsAsked, IsLooked, IsLookedFor, IsReport, IsUnreported}
use Rattle.read_cli.specs.Outputs.{check_output, hands, has_tags, log_output, new_output, original_commits, originals_output, output, refs_output}
use Rattle.read_cli.specs.Readings.{Check, Log, New, Originals, Reading, Refs, Unknown, verdict}
use Rattle.read_cli.specs.declared.judging.Asked.{Asked}
use Rattle.read_cli.specs.declared.words.Beside.{Beside}
use Rattle.read_cli.specs.declared.judging.Asked.TheVariants as asks
use Rattle.proj_commands.specs.declared.subjects.Subject.{Subject}

-- ---- looking at a state that holds h

module _ (S : List Object) (h : Held) (before after : SinkView) (o : Outcome) where
  pub look-refs : (form : Reading) → IsAsked form asks.Refs → IsLookedFor S (Ok (still_hand h.objects [] [])) (Ok (refs_output h)) before after o → IsLooked S (hands form (Ok h)) (output form (Ok h)) before after o
  look-refs Refs w l = l
  look-refs (Log r t) w l = absurd w
  look-refs (Check r t) w l = absurd w
  look-refs (New b r t ns) w l = absurd w
  look-refs (Originals r ns) w l = absurd w
  look-refs Unknown w l = absurd w

  pub look-log : (form : Reading) (s : Subject) → IsAsked form (asks.Log s)
      → IsLookedFor S (head_of s.refname h.refs >>= λ n. Ok (seen_hand h (shape s.filter) n)) (head_of s.refname h.refs >>= λ n. Ok (log_output h (shape s.filter) n)) before after o
      → IsLooked S (hands form (Ok h)) (output form (Ok h)) before after o
  look-log Refs s w l = absurd w
  look-log (New b r t ns) s w l = absurd w
  look-log (Originals r ns) s w l = absurd w
  look-log (Check r t) s w l = absurd w
  look-log Unknown s w l = absurd w
  look-log (Log r t) s w l =
      subst (λ (x : Result Filter Outcome). IsLookedFor S (x >>= λ f. head_of r h.refs >>= λ n. Ok (seen_hand h f n)) (x >>= λ f. head_of r h.refs >>= λ n. Ok (log_output h f n)) before after o) (sym w.sound_is)
      (subst (λ (q : Bytes). IsLookedFor S (head_of q h.refs >>= λ n. Ok (seen_hand h (shape s.filter) n)) (head_of q h.refs >>= λ n. Ok (log_output h (shape s.filter) n)) before after o) w.refname l)

  pub look-check : (form : Reading) (s : Subject) → IsAsked form (asks.Check s)
      → IsLookedFor S (head_of s.refname h.refs >>= λ n. Ok (seen_hand h (shape s.filter) n)) (head_of s.refname h.refs >>= λ n. Ok (check_output h (shape s.filter) n)) before after o
      → IsLooked S (hands form (Ok h)) (output form (Ok h)) before after o
  look-check Refs s w l = absurd w
  look-check (Log r t) s w l = absurd w
  look-check (New b r t ns) s w l = absurd w
  look-check (Originals r ns) s w l = absurd w
  look-check Unknown s w l = absurd w
  look-check (Check r t) s w l =
      subst (λ (x : Result Filter Outcome). IsLookedFor S (x >>= λ f. head_of r h.refs >>= λ n. Ok (seen_hand h f n)) (x >>= λ f. head_of r h.refs >>= λ n. Ok (check_output h f n)) before after o) (sym w.sound_is)
      (subst (λ (q : Bytes). IsLookedFor S (head_of q h.refs >>= λ n. Ok (seen_hand h (shape s.filter) n)) (head_of q h.refs >>= λ n. Ok (check_output h (shape s.filter) n)) before after o) w.refname l)

  pub look-new : (form : Reading) (b : Beside) (s : Subject) (haves : Vec Name) → IsAsked form (asks.New b s haves)
      → IsLookedFor S (head_of s.refname h.refs >>= λ n. Ok (export_hand (has_tags b) h (shape s.filter) n)) (head_of s.refname h.refs >>= λ n. Ok (new_output b h (shape s.filter) s.refname n (map name_bytes haves.items))) before after o
      → IsLooked S (hands form (Ok h)) (output form (Ok h)) before after o
  look-new Refs b s haves w l = absurd w
  look-new (Log r t) b s haves w l = absurd w
  look-new (Check r t) b s haves w l = absurd w
  look-new (Originals r ns) b s haves w l = absurd w
  look-new Unknown b s haves w l = absurd w
  look-new (New k r t ns) b s haves w l =
      subst (λ (y : Result Filter Outcome). IsLookedFor S (y >>= λ f. head_of r h.refs >>= λ n. Ok (export_hand (has_tags k) h f n)) (y >>= λ f. head_of r h.refs >>= λ n. Ok (new_output k h f r n ns)) before after o) (sym w.1.sound_is)
      (subst (λ (z : List Bytes). IsLookedFor S (head_of r h.refs >>= λ n. Ok (export_hand (has_tags k) h (shape s.filter) n)) (head_of r h.refs >>= λ n. Ok (new_output k h (shape s.filter) r n z)) before after o) w.2
      (subst (λ (q : Bytes). IsLookedFor S (head_of q h.refs >>= λ n. Ok (export_hand (has_tags k) h (shape s.filter) n)) (head_of q h.refs >>= λ n. Ok (new_output k h (shape s.filter) q n (map name_bytes haves.items))) before after o) w.1.refname
      (subst (λ (c : Beside). IsLookedFor S (head_of s.refname h.refs >>= λ n. Ok (export_hand (has_tags c) h (shape s.filter) n)) (head_of s.refname h.refs >>= λ n. Ok (new_output c h (shape s.filter) s.refname n (map name_bytes haves.items))) before after o) w.0 l)))

  pub look-originals : (form : Reading) (refname : Bytes) (haves : Vec Name) → IsAsked form (asks.Originals refname haves)
      → IsLookedFor S (Ok (still_hand h.objects [] [])) (head_of refname h.refs >>= λ n. Ok (originals_output h refname n (map name_bytes haves.items))) before after o
      → IsLooked S (hands form (Ok h)) (output form (Ok h)) before after o
  look-originals Refs refname haves w l = absurd w
  look-originals (Log r t) refname haves w l = absurd w
  look-originals (Check r t) refname haves w l = absurd w
  look-originals (New k r t ns) refname haves w l = absurd w
  look-originals Unknown refname haves w l = absurd w
  look-originals (Originals r ns) refname haves w l =
      subst (λ (z : List Bytes). IsLookedFor S (Ok (still_hand h.objects [] [])) (head_of r h.refs >>= λ n. Ok (originals_output h r n z)) before after o) w.1
      (subst (λ (q : Bytes). IsLookedFor S (Ok (still_hand h.objects [] [])) (head_of q h.refs >>= λ n. Ok (originals_output h q n (map name_bytes haves.items))) before after o) w.0 l)

-- ---- laws

ok-same : (x y : Filter) → ◌≡◌ {A = Result Filter Outcome} (Ok x) (Ok y) → x ≡ y
ok-same x y g = cc

module _ (h : Held) where
  pub lawful-refs : (form : Reading) → IsAsked form asks.Refs → IsLawful form (Ok h)
  lawful-refs Refs w = tt
  lawful-refs (Log r t) w = absurd w
  lawful-refs (Check r t) w = absurd w
  lawful-refs (New b r t ns) w = absurd w
  lawful-refs (Originals r ns) w = absurd w
  lawful-refs Unknown w = absurd w

  pub lawful-log : (form : Reading) (s : Subject) → IsAsked form (asks.Log s) → IsLawful form (Ok h)
  lawful-log (Log r t) s w = tt
  lawful-log Refs s w = absurd w
  lawful-log (New b r t ns) s w = absurd w
  lawful-log (Originals r ns) s w = absurd w
  lawful-log (Check r t) s w = absurd w
  lawful-log Unknown s w = absurd w

  pub lawful-check : (form : Reading) (s : Subject) → IsAsked form (asks.Check s) → IsLawful form (Ok h)
  lawful-check (Check r t) s w = tt
  lawful-check Refs s w = absurd w
  lawful-check (Log r t) s w = absurd w
  lawful-check (New b r t ns) s w = absurd w
  lawful-check (Originals r ns) s w = absurd w
  lawful-check Unknown s w = absurd w

  pub lawful-new : (form : Reading) (b : Beside) (s : Subject) (haves : Vec Name) → IsAsked form (asks.New b s haves)
      → OfHead (Ok h) s.refname (λ h n. IsNewLawful (has_tags b) h (shape s.filter) s.refname n (map name_bytes haves.items))
      → IsLawful form (Ok h)
  lawful-new Refs b s haves w law = absurd w
  lawful-new (Log r t) b s haves w law = absurd w
  lawful-new (Check r t) b s haves w law = absurd w
  lawful-new (Originals r ns) b s haves w law = absurd w
  lawful-new Unknown b s haves w law = absurd w
  lawful-new (New k r t ns) b s haves w law = λ f is.
      subst (λ (g : Filter). OfHead (Ok h) r (λ h n. IsNewLawful (has_tags k) h g r n ns)) (ok-same (shape s.filter) f (sym w.1.sound_is ∙ is))
      (subst (λ (z : List Bytes). OfHead (Ok h) r (λ h n. IsNewLawful (has_tags k) h (shape s.filter) r n z)) w.2
      (subst (λ (q : Bytes). OfHead (Ok h) q (λ h n. IsNewLawful (has_tags k) h (shape s.filter) q n (map name_bytes haves.items))) w.1.refname
      (subst (λ (v : Beside). OfHead (Ok h) s.refname (λ h n. IsNewLawful (has_tags v) h (shape s.filter) s.refname n (map name_bytes haves.items))) w.0 law)))

  pub lawful-originals : (form : Reading) (refname : Bytes) (haves : Vec Name) → IsAsked form (asks.Originals refname haves)
      → OfHead (Ok h) refname (λ h n. IsReadBackUpon (tree_at (repo h).commits) (original_commits h n (map name_bytes haves.items)) refname) → IsLawful form (Ok h)
  lawful-originals Refs refname haves w law = absurd w
  lawful-originals (Log r t) refname haves w law = absurd w
  lawful-originals (Check r t) refname haves w law = absurd w
  lawful-originals (New k r t ns) refname haves w law = absurd w
  lawful-originals Unknown refname haves w law = absurd w
  lawful-originals (Originals r ns) refname haves w law =
      subst (λ (z : List Bytes). OfHead (Ok h) r (λ h n. IsReadBackUpon (tree_at (repo h).commits) (original_commits h n z) r)) w.1
      (subst (λ (q : Bytes). OfHead (Ok h) q (λ h n. IsReadBackUpon (tree_at (repo h).commits) (original_commits h n (map name_bytes haves.items)) q)) w.0 law)

-- ---- refs

pub refs-report : (S : List Object) (h : Held) (s : Contents) → Spells h s → (made : Result Bytes Outcome) → IfOk made (λ lines. lines ≡ flat_map ref_line (with_refs [] s.refs)) → IfErr made (λ e. e ≡ OutOfMemory)
    → IsReport S (Ok (still_hand h.objects [] [])) (Ok (refs_output h)) made
refs-report S h s w (Ok lines) is e = ap Ok (sym (is ∙ ap (flat_map ref_line) w.refs))
refs-report S h s w (Err x) is e = subst (λ (y : Outcome). IsReport S (Ok (still_hand h.objects [] [])) (Ok (refs_output h)) (Err y)) (sym e) tt

pub refs-unreported : (made : Result Bytes Outcome) → IfErr made (λ e. e ≡ OutOfMemory) → IfErr made IsUnreported
refs-unreported (Ok lines) e = tt
refs-unreported (Err x) e = subst IsUnreported (sym e) tt

-- ---- what is refused

err-same : {A : Type 0} (x e : Outcome) → ◌≡◌ {A = Result A Outcome} (Err x) (Err e) → x ≡ e
err-same x e g = cc

-- a refusal is that of whatever comes behind it
refused-on : {A B C : Type 0} (r : Result A Outcome) (K : A → Result B Outcome) (c : C) (e : Outcome) → (r >>= λ _. Ok c) ≡ Err e → (r >>= K) ≡ Err e
refused-on (Ok a) K c e g = absurd cc
refused-on {C = C} (Err d) K c e g = ap Err (err-same {A = C} d e g)

refused-first : {A C : Type 0} (r : Result A Outcome) (c : C) (e : Outcome) → (r >>= λ _. Ok c) ≡ Err e → r ≡ Err e
refused-first (Ok a) c e g = absurd cc
refused-first {C = C} (Err d) c e g = ap Err (err-same {A = C} d e g)

pub verdict-output : (form : Reading) (l : Result Held Outcome) (e : Outcome) → verdict form ≡ Err e → output form l ≡ Err e
verdict-output Refs l e g = absurd cc
verdict-output (Log r t) l e g = refused-on (sound t) (λ f. l >>= λ h. head_of r h.refs >>= λ n. Ok (log_output h f n)) tt e g
verdict-output (Check r t) l e g = refused-on (sound t) (λ f. l >>= λ h. head_of r h.refs >>= λ n. Ok (check_output h f n)) tt e g
verdict-output (New b r t ns) l e g = refused-on (sound t) (λ f. l >>= λ h. head_of r h.refs >>= λ n. Ok (new_output b h f r n ns)) tt e g
verdict-output (Originals r ns) l e g = absurd cc
verdict-output Unknown l e g = ap Err (err-same {A = Unit {0}} Usage e g)

usage-own : IsOwn Usage
usage-own = record { done = λ e. cc; read = λ e. cc; write = λ e. cc; store = λ e. cc }

pub verdict-own : (form : Reading) (e : Outcome) → verdict form ≡ Err e → IsOwn e
verdict-own Refs e g = absurd cc
verdict-own (Log r t) e g = sound-own t e (refused-first (sound t) tt e g)
verdict-own (Check r t) e g = sound-own t e (refused-first (sound t) tt e g)
verdict-own (New b r t ns) e g = sound-own t e (refused-first (sound t) tt e g)
verdict-own (Originals r ns) e g = absurd cc
verdict-own Unknown e g = subst IsOwn (err-same {A = Unit {0}} Usage e g) usage-own

-- what was judged is refused by what isn't loaded
pub asked-refused : (form : Reading) (v : Asked) → IsAsked form v → (e : Outcome) → output form (Err e) ≡ Err e
asked-refused Refs v w e = refl
asked-refused (Originals r ns) v w e = refl
asked-refused (Log r t) (asks.Log s) w e = ap (λ (x : Result Filter Outcome). x >>= λ f. (Err e >>= λ (h : Held). head_of r h.refs >>= λ n. Ok (log_output h f n))) w.sound_is
asked-refused (Check r t) (asks.Check s) w e = ap (λ (x : Result Filter Outcome). x >>= λ f. (Err e >>= λ (h : Held). head_of r h.refs >>= λ n. Ok (check_output h f n))) w.sound_is
asked-refused (New b r t ns) (asks.New k s haves) w e = ap (λ (x : Result Filter Outcome). x >>= λ f. (Err e >>= λ (h : Held). head_of r h.refs >>= λ n. Ok (new_output b h f r n ns))) w.1.sound_is
asked-refused (Log r t) _ w e = absurd w
asked-refused (Check r t) _ w e = absurd w
asked-refused (New b r t ns) _ w e = absurd w
asked-refused Unknown _ w e = absurd w

-- ---- hands

module _ (h : Held) where
  held-one : {A : Type 0} (x : Result A Outcome) (K : A → Hand) → ((a : A) → (K a).held ≡ h.objects) → Each (λ (k : Hand). k.held ≡ h.objects) (option_to_list (result_ok (x >>= λ a. Ok (K a))))
  held-one (Ok a) K is = (is a, tt)
  held-one (Err e) K is = tt

  held-two : {A B : Type 0} (x : Result A Outcome) (y : Result B Outcome) (K : A → B → Hand) → ((a : A) (b : B) → (K a b).held ≡ h.objects) → Each (λ (k : Hand). k.held ≡ h.objects) (option_to_list (result_ok (x >>= λ a. y >>= λ b. Ok (K a b))))
  held-two (Ok a) y K is = held-one y (K a) (is a)
  held-two (Err e) y K is = tt

  held-export : (b : Bool) (f : Filter) (n : Bytes) → (export_hand b h f n).held ≡ h.objects
  held-export true f n = refl
  held-export _ f n = refl

  pub hands-held : (form : Reading) → Each (λ (k : Hand). k.held ≡ h.objects) (hands form (Ok h))
  hands-held Refs = (refl, tt)
  hands-held (Log r t) = held-two (sound t) (head_of r h.refs) (λ f n. seen_hand h f n) (λ f n. refl)
  hands-held (Check r t) = held-two (sound t) (head_of r h.refs) (λ f n. seen_hand h f n) (λ f n. refl)
  hands-held (New b r t ns) = held-two (sound t) (head_of r h.refs) (λ f n. export_hand (has_tags b) h f n) (λ f n. held-export (has_tags b) f n)
  hands-held (Originals r ns) = (refl, tt)
  hands-held Unknown = tt
