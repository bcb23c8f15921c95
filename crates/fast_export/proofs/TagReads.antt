-- What is read of a tag that was written.
use Rattle.std.proofs.Common.{◌≡◌, ℕ, ◌-◌, true, false, cond, [], ◌∷◌, ◌++◌, length, Option, Some, None, Ok, Err, refl, sym, ap, ◌∙◌, subst, append_assoc}
use Rattle.std.specs.Prelude.{codes, nat_eq, not, replicate}
use Rattle.std.specs.Fmt.{decimal}
use Rattle.std.specs.Cmp.{first_so}
use Rattle.git_objects.specs.Bodies.{is_name}
use Rattle.git_objects.specs.CommitBodies.{digits_name, strip}
use Rattle.git_objects.specs.Commits.{field, hex}
use Rattle.git_objects.specs.Idents.{is_ident}
use Rattle.git_objects.specs.Paths.{Bytes, is_bytes, same_bytes}
use Rattle.git_objects.specs.Results.{◌>>=◌}
use Rattle.git_objects.specs.declared.limits.TheConstants.{MESSAGE_BYTES}
use Rattle.git_objects.specs.declared.quantity.Quantity.TheVariants as limits
use Rattle.git_objects.proofs.CommitReading.{digits-read, strip-read}
use Rattle.stream_lex.specs.Cutting.{◌then◌, judged, pure}
use Rattle.stream_lex.specs.Lines.{Input, Line, line_at}
use Rattle.stream_lex.specs.Spelling.{no_lf}
use Rattle.stream_lex.specs.declared.stop.Stop.TheVariants as stops
use Rattle.stream_reader.specs.Blocks.{data_behind, message_behind, message_data, tag_data}
use Rattle.stream_reader.specs.Commands.{TagLine, between, between_at, command_line, gives, turn, turn_in, turned}
use Rattle.stream_reader.specs.Heads.{behind_word, mark_in, must_say, ref_in, said, tag, tagger_in}
use Rattle.stream_reader.specs.Names.{tag_name, target, target_by}
use Rattle.stream_reader.specs.Reading.{Judged, fault, lifted, need_line, option_line, or_fault}
use Rattle.stream_reader.specs.Verdicts.{tagged_start}
use Rattle.stream_reader.specs.Words.{mark}
use Rattle.stream_reader.specs.declared.command.Command.{Command}
use Rattle.stream_reader.specs.declared.command.Command.TheVariants as commands
use Rattle.stream_reader.specs.declared.command.TagHead.{TagHead}
use Rattle.stream_reader.specs.declared.commit_ref.CommitRef.{CommitRef}
use Rattle.stream_reader.specs.declared.commit_ref.Target.TheVariants as targets
use Rattle.stream_reader.specs.declared.fault.Feature.TheVariants.{ZeroName}
use Rattle.stream_reader.specs.declared.fault.StreamFault.TheVariants.{Syntax, Unsupported}
use Rattle.stream_reader.specs.declared.progress.Event.TheVariants.{Gives}
use Rattle.stream_reader.specs.declared.progress.Manner.{Manner}
use Rattle.stream_reader.specs.declared.progress.Phase.TheVariants.{Between}
use Rattle.tag_objects.specs.TagNames.{is_tag_name, tag_ref}
use Rattle.tag_objects.specs.Tags.{tag_text}
use Rattle.tag_objects.specs.declared.tag.Tag.{Tag}
use Rattle.fast_export.proofs.Changing.{hex_avoids, not_colon}
use Rattle.fast_export.proofs.Goings.{Reads, Read, Limited, Says, Said, is_command, judged_reads, then_reads}
use Rattle.fast_export.proofs.Heads.{ident_plain, line_behind, pure_reads, ref_plain, word_text}
use Rattle.fast_export.proofs.Numbers.{all_so}
use Rattle.fast_export.proofs.ReadLines.{IsLine, LineIs, LineLong, LineTold, Room, data_line, data_short, data_text, left, line_told, message_data_reads, missing_reads, need_reads, other_reads}

-- ---- the name of a commit

pub digits_says : (at : ℕ) (n : Bytes) → is_name n ≡ true → same_bytes n (replicate 20 0) ≡ false → Says (ref_in (record { place = at; bytes = hex n })) (λ r. r.target ≡ targets.Digits (record { 0 = n }))
unfolding target
digits_says at n h z =
    Said (record { at = at; target = targets.Digits (record { 0 = n }) })
    (ap (λ b. cond b (or_fault (Syntax at) (mark (hex n)) >>= λ n. Ok (targets.Mark n)) (target_by at (hex n) (digits_name (hex n))) >>= λ t. Ok (record { at = at; target = t })) (not_colon (hex n) (hex_avoids 58 n refl (first_so _ _ h)))
    ∙ ap (λ o. target_by at (hex n) o >>= λ t. Ok (record { at = at; target = t })) (digits-read n h)
    ∙ ap (λ b. (cond b (fault (Unsupported at ZeroName)) (Ok (record { 0 = n })) >>= λ x. Ok (targets.Digits x)) >>= λ t. Ok (record { at = at; target = t })) z)
    refl

-- ---- a line that must begin with a word

must_say_reads : {A : Type 0} (word v : Bytes) (says : Line → Judged A) (n : ℕ) (rest : Bytes) (P : A → Type 0) → Room n (word_text word v rest) → IsLine (word ++ v) →
    ((at : ℕ) → Says (says (record { place = at; bytes = v })) P) → Reads (must_say word says true (left n (word_text word v rest))) P (left n rest)
must_say_reads {A = A} word v says n rest P r k h =
    then_reads need_line (λ l. judged (behind_word word l >>= says)) (left n (word_text word v rest)) (left n rest) (left n rest) (λ l. l.bytes ≡ word ++ v) P
    (need_reads (word ++ v) n rest r k)
    (λ l e. judged_reads (behind_word word l >>= says) (left n rest) P (along l e (h l.place)))
  where
    behind : (l : Line) → l.bytes ≡ word ++ v → behind_word word l ≡ Ok (record { place = l.place; bytes = v })
    behind l e = ap (λ (t : Bytes). or_fault (Syntax l.place) (strip word t) >>= λ t. Ok (record { place = l.place; bytes = t })) e ∙ ap (λ o. or_fault (Syntax l.place) o >>= λ t. Ok (record { place = l.place; bytes = t })) (strip-read word v)

    along : (l : Line) → l.bytes ≡ word ++ v → Says (says (record { place = l.place; bytes = v })) P → Says (behind_word word l >>= says) P
    along l e s = subst (λ r. Says (r >>= says) P) (sym (behind l e)) s

tagger_says : (at : ℕ) (t : Bytes) → is_ident t ≡ true → Says (tagger_in (record { place = at; bytes = t })) (λ x. x ≡ t)
tagger_says at t h = Said t (ap (λ b. cond b (Ok t) (Err (stops.Fault (Syntax at)))) h) refl

-- ---- data

same_data : (l : Line) (ds : Bytes) (i : Input) → l.bytes ≡ codes "data " ++ ds → message_behind l true i ≡ data_behind limits.Message MESSAGE_BYTES l true i
same_data l ds i e =
    ap (λ (t : Bytes). message_behind (record { place = l.place; bytes = t }) true i) e
    ∙ ap (λ (t : Bytes). data_behind limits.Message MESSAGE_BYTES (record { place = l.place; bytes = t }) true i) (sym e)

tag_data_is : (ds : Bytes) (i j : Input) → Reads (need_line true i) (λ l. l.bytes ≡ codes "data " ++ ds) j → message_data true i ≡ tag_data true i
unfolding message_data tag_data
tag_data_is ds i j (Read l e p) =
    ap (λ r. r >>= λ x. message_behind x.0 true x.1) e ∙ same_data l ds j p ∙ ap (λ r. r >>= λ x. data_behind limits.Message MESSAGE_BYTES x.0 true x.1) (sym e)
tag_data_is ds i j (Limited at which e) =
    ap (λ r. r >>= λ x. message_behind x.0 true x.1) e ∙ ap (λ r. r >>= λ x. data_behind limits.Message MESSAGE_BYTES x.0 true x.1) (sym e)

tag_data_reads : (n : ℕ) (b rest : Bytes) → Room n (data_text b rest) → Reads (tag_data true (left n (data_text b rest))) (λ x. x ≡ b) (left n rest)
tag_data_reads n b rest r =
    subst (λ t. Reads t (λ x. x ≡ b) (left n rest))
    (tag_data_is (decimal (length b)) (left n (data_text b rest)) (left n (b ++ 10 ∷ rest)) (need_reads (codes "data " ++ decimal (length b)) n (b ++ 10 ∷ rest) r (data_line (length b) (data_short n b rest r))))
    (message_data_reads n b rest r)

-- ---- a tag, behind its first line

-- what is read of a tag
pub record IsHeadOf (t : Tag) (h : TagHead) : Type 0 where
  pub name : h.name ≡ t.name
  pub from : h.from.target ≡ targets.Digits t.target
  pub mark : h.mark ≡ None
  pub tagger : h.tagger ≡ t.tagger
  pub message : h.message ≡ t.message

-- it is the command of such a tag
abbrev pub IsRead : Tag → Command → Type 0
IsRead t c = (h : TagHead) × (c ≡ commands.Tag h) × IsHeadOf t h

-- what is known of a tag that is exported
pub record IsWritable (t : Tag) : Type 0 where
  pub name : is_tag_name t.name ≡ true
  pub tagger : is_ident t.tagger ≡ true
  pub target : is_name t.target.0 ≡ true
  pub some : same_bytes t.target.0 (replicate 20 0) ≡ false

abbrev pub behind_lines : Tag → Bytes → Bytes
behind_lines t rest = word_text (codes "from ") (hex t.target.0) (word_text (codes "tagger ") t.tagger (data_text t.message rest))

abbrev pub tag_lines : Tag → Bytes → Bytes
tag_lines t rest = word_text (codes "tag ") t.name (behind_lines t rest)

pub lf_free : (n : Bytes) → is_bytes n ≡ true → no_lf (hex n) ≡ true
lf_free n h = all_so (λ x. not (nat_eq x 10)) (λ x. not (nat_eq x 10)) (λ x e. e) (hex n) (hex_avoids 10 n refl h)

name_says : (at : ℕ) (t : Bytes) → is_tag_name t ≡ true → Says (tag_name at (Some t)) (λ x. x ≡ t)
name_says at t h = Said t (ap (λ b. cond b (Ok t) (Err (stops.Fault (Syntax at)))) h) refl

abbrev made : Bytes → Option ℕ → CommitRef → Bytes → Bytes → Command
made n m f p d = commands.Tag (record { name = n; from = f; mark = m; tagger = p; message = d })

tag_reads : (at : ℕ) (t : Tag) (n : ℕ) (rest : Bytes) → Room n (behind_lines t rest) → IsWritable t → Reads (tag at (Some t.name) true (left n (behind_lines t rest))) (IsRead t) (left n rest)
unfolding tag
tag_reads at t n rest r w =
    let t2 = data_text t.message rest in
    let t1 = word_text (codes "tagger ") t.tagger t2 in
    let i = left n (behind_lines t rest) in
    let j = left n t1 in
    let k = left n t2 in
    let z = left n rest in
    let from : IsLine (codes "from " ++ hex t.target.0) = record { plain = lf_free t.target.0 (first_so _ _ w.target); seen = refl } in
    let by : IsLine (codes "tagger " ++ t.tagger) = record { plain = ident_plain t.tagger w.tagger; seen = refl } in
    let r1 = line_behind n (codes "from " ++ hex t.target.0) t1 r in
    let r2 = line_behind n (codes "tagger " ++ t.tagger) t2 r1 in
    then_reads (judged (tag_name at (Some t.name)))
    (λ n. said (codes "mark ") mark_in then λ m. must_say (codes "from ") ref_in then λ f. option_line (codes "original-oid ") then λ o. must_say (codes "tagger ") tagger_in then λ p. tag_data then λ d. pure (made n m f p d))
    i i z (λ x. x ≡ t.name) (IsRead t)
    (judged_reads (tag_name at (Some t.name)) i (λ x. x ≡ t.name) (name_says at t.name w.name))
    (λ x a. then_reads (said (codes "mark ") mark_in)
    (λ m. must_say (codes "from ") ref_in then λ f. option_line (codes "original-oid ") then λ o. must_say (codes "tagger ") tagger_in then λ p. tag_data then λ d. pure (made x m f p d))
    i i z (λ o. o ≡ None) (IsRead t)
    (missing_reads (codes "mark ") (codes "from " ++ hex t.target.0) mark_in n t1 r from refl)
    (λ m b. then_reads (must_say (codes "from ") ref_in)
    (λ f. option_line (codes "original-oid ") then λ o. must_say (codes "tagger ") tagger_in then λ p. tag_data then λ d. pure (made x m f p d))
    i j z (λ f. f.target ≡ targets.Digits t.target) (IsRead t)
    (must_say_reads (codes "from ") (hex t.target.0) ref_in n t1 (λ f. f.target ≡ targets.Digits t.target) r from (λ at. digits_says at t.target.0 w.target w.some))
    (λ f c. then_reads (option_line (codes "original-oid "))
    (λ o. must_say (codes "tagger ") tagger_in then λ p. tag_data then λ d. pure (made x m f p d))
    j j z (λ o. o ≡ None) (IsRead t)
    (other_reads (codes "original-oid ") (codes "tagger " ++ t.tagger) n t2 r1 by refl)
    (λ o d. then_reads (must_say (codes "tagger ") tagger_in)
    (λ p. tag_data then λ d. pure (made x m f p d))
    j k z (λ p. p ≡ t.tagger) (IsRead t)
    (must_say_reads (codes "tagger ") t.tagger tagger_in n t2 (λ p. p ≡ t.tagger) r1 by (λ at. tagger_says at t.tagger w.tagger))
    (λ p e. then_reads tag_data
    (λ d. pure (made x m f p d))
    k z z (λ d. d ≡ t.message) (IsRead t)
    (tag_data_reads n t.message rest r2)
    (λ d g. pure_reads (made x m f p d) z (IsRead t)
    (record { name = x; from = f; mark = m; tagger = p; message = d }, refl, record { name = a; from = c; mark = b; tagger = e; message = g })))))))

-- ---- a turn

abbrev takes : Manner
takes = tagged_start.manner

tag_kind : (v : Bytes) → command_line (codes "tag " ++ v) ≡ TagLine (Some v)
unfolding command_line
tag_kind v = refl

name_plain : (t : Bytes) → is_tag_name t ≡ true → no_lf t ≡ true
name_plain t h = ref_plain (tag_ref t) h

given : (at : ℕ) (t : Tag) (n : ℕ) (rest : Bytes) → Room n (behind_lines t rest) → IsWritable t →
    Reads ((tag at (Some t.name) then gives at Between takes) true (left n (behind_lines t rest))) (is_command (IsRead t) tagged_start) (left n rest)
given at t n rest r w =
    then_reads (tag at (Some t.name)) (gives at Between takes) (left n (behind_lines t rest)) (left n rest) (left n rest) (IsRead t) (is_command (IsRead t) tagged_start)
    (tag_reads at t n rest r w)
    (λ c k. pure_reads (turned (Gives (record { at = at; command = c })) Between takes) (left n rest) (is_command (IsRead t) tagged_start) (record { at = at; command = c }, refl, k))

pub tag_turn_reads : (t : Tag) (n : ℕ) (rest : Bytes) → Room n (tag_lines t rest) → IsWritable t → Reads (turn tagged_start true (left n (tag_lines t rest))) (is_command (IsRead t) tagged_start) (left n rest)
unfolding turn
tag_turn_reads t n rest r w = by (line_told n (codes "tag " ++ t.name) (behind_lines t rest) r k)
  where
    k : IsLine (codes "tag " ++ t.name)
    k = record { plain = name_plain t.name w.name; seen = refl }

    i : Input
    i = left n (tag_lines t rest)

    place : ℕ
    place = n - length (tag_lines t rest)

    told : line_at true i ≡ Ok (Some (record { place = place; bytes = codes "tag " ++ t.name }), left n (behind_lines t rest)) →
        turn_in Between takes true i ≡ between (TagLine (Some t.name)) place takes true (left n (behind_lines t rest))
    told d = ap (λ r. lifted r >>= between_at takes true) d ∙ ap (λ c. between c place takes true (left n (behind_lines t rest))) (tag_kind t.name)

    by : LineTold n (codes "tag " ++ t.name) (behind_lines t rest) → Reads (turn_in Between takes true i) (is_command (IsRead t) tagged_start) (left n rest)
    by (LineIs d) = subst (λ r. Reads r (is_command (IsRead t) tagged_start) (left n rest)) (sym (told d)) (given place t n rest (line_behind n (codes "tag " ++ t.name) (behind_lines t rest) r) w)
    by (LineLong at d) = Limited at limits.Line (ap (λ r. lifted r >>= between_at takes true) d)

-- ---- the text

shape : (a h g d m rest : Bytes) →
    field (codes "tag") a (field (codes "from") h (field (codes "tagger") g (field (codes "data") d (m ++ 10 ∷ [])))) ++ rest
    ≡ word_text (codes "tag ") a (word_text (codes "from ") h (word_text (codes "tagger ") g (word_text (codes "data ") d (m ++ 10 ∷ rest))))
shape a h g d m rest = simp append_assoc

pub tag_text_lines : (t : Tag) (rest : Bytes) → tag_text t ++ rest ≡ tag_lines t rest
tag_text_lines t rest = shape t.name (hex t.target.0) t.tagger (decimal (length t.message)) t.message rest
