-- Whatever reads is, byte for byte, what its fields would write.
use Rattle.record_layout.proofs.Telling.{within_ok}
use Rattle.record_layout.specs.declared.fields.Record.{Record}
use Rattle.record_layout.specs.Reading.{read_as, length_field, kind_field, frame_rules, body, content_right, body_rules, reading_of, reading, list_in, listing, Reading}
use Rattle.std.specs.Prelude.{Option, Some, None, Err}
use Prim.Native.Nat.{ℕ, zero, suc, ◌+◌, ◌-◌, ◌*◌, ◌/◌, ◌≤◌, ◌<◌}
use mathlib.Core.Bool.{Bool, true, false}
use mathlib.Core.List.{List, [], ◌∷◌, ◌++◌}
use mathlib.Core.Logic.{◌⊎◌, inl, inr}
use mathlib.Core.Path.{◌≡◌, refl, sym, ap, subst, ◌∙◌}
use native.Mathlib.Omega.{arith}
use lib.ListN.{length, take, drop, length-drop, take-append-drop}
use lib.Seq.{length-take-le, drop-drop, drop-nil, take-nil}
use lib.Dec.{eqb}
use borrow.Author.Tests.{eqb-true}
use Rattle.answers.specs.Order.{Rule, pick, decide}
use Rattle.answers.proofs.Deciding.{NoneHolds, Accepts, OneHolds, decided, passed}
use Rattle.counters.specs.Sizes.{Size}
use Rattle.record_layout.specs.Bytes.{AreBytes, half_bytes, word_bytes, word_of}
use Rattle.record_layout.specs.Kinds.{shape_of, kind_among, kind_of, kinds, items_of, body_length, body_limit}
use Rattle.record_layout.specs.Fields.{fields_of, kind_of_fields, body_of, list_place, record_of}
use Rattle.record_layout.specs.Writing.{readable}
use Rattle.record_layout.specs.declared.kind.Kind.{Kind}
use Rattle.record_layout.specs.declared.kind.Kind.TheVariants.{Fresh, Start, Call, Release, End, Ended}
use Rattle.record_layout.specs.declared.fields.Fields.{Fields}
use Rattle.record_layout.proofs.Checks.{FrameFits, frame_fits, BodyFits, body_fits}
use Rattle.record_layout.proofs.Fronts.{by_front, bytes_drop, bytes_take, half_front, word_front, behind_front}
use Rattle.record_layout.proofs.Lengths.{length_body, length_record}
use Rattle.record_layout.proofs.Readable.{right_readable}
use Rattle.record_layout.proofs.Frames.{framed}

-- a body that is right for its kind is the head that its fields make and the list behind it
abbrev Again : Size → Kind → List ℕ → Type 0
Again z k b = AreBytes b → length b ≡ body_length z k b → content_right z k b ≡ true → body_of (fields_of k b) (drop (shape_of k).head b) ≡ b

start_again : (z : Size) (b : List ℕ) → 2 ≤ length b → Again z Start b
start_again z = by_front 2 (Again z Start)
    (λ slot n rest bytes long right.
    let counted : length rest / 2 ≡ n = omega arith in
    ap (λ (m : ℕ). slot ∷ m ∷ rest) counted)

call_again : (z : Size) (b : List ℕ) → 4 ≤ length b → Again z Call b
call_again z = by_front 4 (Again z Call)
    (λ slot object kind zero rest bytes long right.
    let argument = word_front rest (omega arith) (bytes_drop 4 (slot ∷ object ∷ kind ∷ zero ∷ rest) bytes) in
    λ i. slot ∷ object ∷ kind ∷ sym (eqb-true zero 0 right) i ∷ argument i)

asked_again : (z : Size) (rollback : Bool) (b : List ℕ) → 1 ≤ length b → Again z (End rollback) b
asked_again z rollback = by_front 1 (Again z (End rollback))
    (λ slot rest bytes long right. ap (λ (x : List ℕ). slot ∷ x) (word_front rest (omega arith) (bytes_drop 1 (slot ∷ rest) bytes)))

end_again : (z : Size) (rollback : Bool) (b : List ℕ) → 6 ≤ length b → Again z (Ended rollback) b
end_again z rollback = by_front 6 (Again z (Ended rollback))
    (λ a b c d slot n rest bytes long right.
    let counted : length rest / 5 ≡ n = omega arith in
    let whole : List ℕ = a ∷ b ∷ c ∷ d ∷ slot ∷ n ∷ rest in
    ap (λ (m : ℕ). word_bytes (word_of whole) ++ (slot ∷ m ∷ rest)) counted ∙ word_front whole (omega arith) bytes)

body_again : (z : Size) (k : Kind) (b : List ℕ) → (shape_of k).head ≤ length b → Again z k b
body_again z Fresh b there = λ bytes long right. word_front b there bytes
body_again z Start b there = start_again z b there
body_again z Call b there = call_again z b (omega arith)
body_again z Release b there = by_front 2 (Again z Release) (λ slot object rest bytes long right. refl) b there
body_again z (End rollback) b there = asked_again z rollback b (omega arith)
body_again z (Ended rollback) b there = end_again z rollback b there

-- the number is that of the kind which is found for it
kind_number : (ks : List Kind) (number : ℕ) (k : Kind) → kind_among ks number ≡ Some k → number ≡ (shape_of k).number
kind_number [] number k found = let clash : ◌≡◌ {A = ℕ} 0 1 = cc in absurd (omega arith)
kind_number (j ∷ ks) number k found = go (eqb number (shape_of j).number) refl (kind_number ks number k) found
  where
    go : (t : Bool) → eqb number (shape_of j).number ≡ t → (kind_among ks number ≡ Some k → number ≡ (shape_of k).number)
        → pick t (Some j) (kind_among ks number) ≡ Some k → number ≡ (shape_of k).number
    go true e later found =
        let same : j ≡ k = cc in
        eqb-true number (shape_of j).number e ∙ ap (λ (x : Kind). (shape_of x).number) same
    go false e later found = later found

-- fields read for a kind are of that kind
pub kind_kept : (k : Kind) (b : List ℕ) → kind_of_fields (fields_of k b) ≡ k
kind_kept Fresh b = refl
kind_kept Start b = refl
kind_kept Call b = refl
kind_kept Release b = refl
kind_kept (End rollback) b = refl
kind_kept (Ended rollback) b = refl

-- what holds where bytes read as a record
pub record IsRead (z : Size) (s : List ℕ) (f : Fields) (list taken : ℕ) : Type 0 where
  pub frame_passes : NoneHolds (frame_rules z s)
  pub kind_is : kind_field s ≡ (shape_of (kind_of_fields f)).number
  pub fits : BodyFits z (kind_of_fields f) (body z s)
  pub fields_are : fields_of (kind_of_fields f) (body z s) ≡ f
  pub list_is : list ≡ list_place (kind_of_fields f)
  pub taken_is : taken ≡ 4 + length (body z s)

-- where rules that refuse a reading give a record, they pass
rules_passed : (rules : List Rule) (r : Reading) (f : Fields) (list taken : ℕ) → decide rules Err r ≡ read_as f list taken
    → NoneHolds rules × (r ≡ read_as f list taken)
rules_passed rules r f list taken read = go (decided rules)
  where
    go : Accepts rules ⊎ OneHolds rules → NoneHolds rules × (r ≡ read_as f list taken)
    go (inl accepts) = (accepts.passes, sym (accepts.gives Err r) ∙ read)
    go (inr refuses) = let clash : ◌≡◌ {A = ℕ} 0 1 = cc (refuses.gives Err r) in absurd (omega arith)

pub record_read_lem : (z : Size) (s : List ℕ) (f : Fields) (list taken : ℕ) → reading z s ≡ read_as f list taken → IsRead z s f list taken
record_read_lem z s f list taken read = go (kind_of (kind_field s)) refl whole.1
  where
    whole : NoneHolds (frame_rules z s) × (reading_of z (kind_of (kind_field s)) (body z s) ≡ read_as f list taken)
    whole = rules_passed (frame_rules z s) (reading_of z (kind_of (kind_field s)) (body z s)) f list taken read

    go : (found : Option Kind) → kind_of (kind_field s) ≡ found → reading_of z found (body z s) ≡ read_as f list taken → IsRead z s f list taken
    go None e told = let clash : ◌≡◌ {A = ℕ} 0 1 = cc in absurd (omega arith)
    go (Some k) e told =
        let b : List ℕ = body z s in
        let right = rules_passed (body_rules z k b) (read_as (fields_of k b) (list_place k) (4 + length b)) f list taken told in
        let found : Record = record { fields = fields_of k b; list = list_place k; taken = 4 + length b } in
        let told_same : found ≡ record { fields = f; list = list; taken = taken } = within_ok _ _ right.1 in
        let fields : fields_of k b ≡ f = ap (λ (r : Record). r.fields) told_same in
        let place : list_place k ≡ list = ap (λ (r : Record). r.list) told_same in
        let ends : 4 + length b ≡ taken = ap (λ (r : Record). r.taken) told_same in
        let same : k ≡ kind_of_fields f = sym (kind_kept k b) ∙ ap kind_of_fields fields in
        record {
          frame_passes = whole.0;
          kind_is = kind_number kinds (kind_field s) k e ∙ ap (λ (x : Kind). (shape_of x).number) same;
          fits = subst (λ (x : Kind). BodyFits z x b) same (body_fits z k b right.0);
          fields_are = subst (λ (x : Kind). fields_of x b ≡ f) same fields;
          list_is = sym place ∙ ap list_place same;
          taken_is = sym ends;
        }

-- the first four bytes are the frame that tells length and kind
frame_again : (s : List ℕ) → 4 ≤ length s → AreBytes s → framed (length_field s) (kind_field s) (drop 4 s) ≡ s
frame_again = by_front 4 (λ (s : List ℕ). AreBytes s → framed (length_field s) (kind_field s) (drop 4 s) ≡ s)
    (λ a b c d rest bytes.
    let s : List ℕ = a ∷ b ∷ c ∷ d ∷ rest in
    ap (λ (x : List ℕ). half_bytes (length_field s) ++ x) (half_front (c ∷ d ∷ rest) (omega arith) (bytes_drop 2 s bytes))
    ∙ half_front s (omega arith) bytes)

drop_take : (n k : ℕ) (l : List ℕ) → drop n (take k l) ≡ take (k - n) (drop n l)
drop_take zero k l = let same : k ≡ k - 0 = omega arith in ap (λ (m : ℕ). take m l) same
drop_take (suc n) zero l = let none : 0 ≡ 0 - suc n = omega arith in drop-nil (suc n) ∙ ap (λ (m : ℕ). take m (drop (suc n) l)) none
drop_take (suc n) (suc k) [] = drop-nil (suc n) ∙ sym (take-nil (suc k - suc n))
drop_take (suc n) (suc k) (x ∷ l) = let same : k - n ≡ suc k - suc n = omega arith in drop_take n k l ∙ ap (λ (m : ℕ). take m (drop n l)) same

-- a list found by its place and by where the record ends is what stands behind the head of the body
list_of_body : (s : List ℕ) (length head : ℕ) → take ((4 + length) - (4 + head)) (drop (4 + head) s) ≡ drop head (take length (drop 4 s))
list_of_body s length head =
    let same : (4 + length) - (4 + head) ≡ length - head = omega arith in
    ap (λ (n : ℕ). take n (drop (4 + head) s)) same
    ∙ ap (take (length - head)) (sym (drop-drop head 4 s))
    ∙ sym (drop_take head length (drop 4 s))

-- a record is its frame in front of its body
record_framed : (f : Fields) (list b : List ℕ) (bytes number : ℕ) → body_of f list ≡ b → length b ≡ bytes
    → number ≡ (shape_of (kind_of_fields f)).number → framed bytes number b ≡ record_of f list
record_framed f list b bytes number same long kind =
    λ i. framed ((sym long ∙ ap length (sym same) ∙ length_body f list) i) (kind i) (sym same i)

module _ (z : Size) (s : List ℕ) (f : Fields) (list taken : ℕ) (read : reading z s ≡ read_as f list taken) where
  is : IsRead z s f list taken
  is = record_read_lem z s f list taken read

  abbrev head : ℕ
  head = (shape_of (kind_of_fields f)).head

  pub body_there : body z s ≡ take (length_field s) (drop 4 s)
  body_there = passed (frame_rules z s) (λ refusal. []) (take (length_field s) (drop 4 s)) is.frame_passes

  framed_right : FrameFits z s
  framed_right = frame_fits z s is.frame_passes

  body_long : length (body z s) ≡ length_field s
  body_long = ap length body_there ∙ length-take-le (length_field s) (drop 4 s) (rw length-drop (omega (arith, framed_right.all_there)))

  -- the list stands inside the record, and the record inside the bytes
  pub list_inside : list ≤ taken
  list_inside = omega (arith, is.list_is, is.taken_is, is.fits.right_length)

  pub taken_inside : taken ≤ length s
  taken_inside = omega (arith, is.taken_is, body_long, framed_right.all_there)

  pub some_taken : 0 < taken
  some_taken = omega (arith, is.taken_is)

  -- it is what stands behind the head of the body
  pub list_behind : listing z s ≡ drop (shape_of (kind_of_fields f)).head (body z s)
  list_behind =
      ap (λ (r : Reading). list_in r s) read
      ∙ ap (λ (n : ℕ). take (taken - n) (drop n s)) is.list_is
      ∙ ap (λ (n : ℕ). take (n - list_place (kind_of_fields f)) (drop (list_place (kind_of_fields f)) s)) (is.taken_is ∙ ap (λ (n : ℕ). 4 + n) body_long)
      ∙ list_of_body s (length_field s) head
      ∙ ap (drop head) (sym body_there)

  -- and has the items that the kind and n ask for
  pub list_long : length (listing z s) ≡ (shape_of (kind_of_fields f)).item * items_of z (shape_of (kind_of_fields f)) (body z s)
  list_long = ap length list_behind ∙ length-drop head (body z s) ∙ omega (arith, is.fits.right_length)

  module _ (bytes : AreBytes s) where
    body_kept : body_of f (listing z s) ≡ body z s
    body_kept =
        let k : Kind = kind_of_fields f in
        let are : AreBytes (body z s) = subst AreBytes (sym body_there) (bytes_take (length_field s) (drop 4 s) (bytes_drop 4 s bytes)) in
        ap (body_of f) list_behind
        ∙ ap (λ (g : Fields). body_of g (drop (shape_of k).head (body z s))) (sym is.fields_are)
        ∙ body_again z k (body z s) (omega (arith, is.fits.right_length)) are is.fits.right_length is.fits.right_content

    front_kept : framed (length_field s) (kind_field s) (take (length_field s) (drop 4 s)) ≡ record_of f (listing z s)
    front_kept =
        ap (framed (length_field s) (kind_field s)) (sym body_there)
        ∙ record_framed f (listing z s) (body z s) (length_field s) (kind_field s) body_kept body_long is.kind_is

    -- whatever reads is, byte for byte, what its fields would write
    pub read_is_written : (readable z f (listing z s) ≡ true) × (s ≡ record_of f (listing z s) ++ drop (length (record_of f (listing z s))) s)
    read_is_written =
        let short : length (body z s) ≤ body_limit z = rw body_long framed_right.short in
        let rest : List ℕ = drop (length_field s) (drop 4 s) in
        let whole : s ≡ record_of f (listing z s) ++ rest =
        sym (frame_again s framed_right.framed bytes)
        ∙ ap (framed (length_field s) (kind_field s)) (sym (take-append-drop (length_field s) (drop 4 s)))
        ∙ ap (λ (x : List ℕ). x ++ rest) front_kept in (
          right_readable z f (listing z s) (body z s) body_kept (record { short = short; fits = is.fits }),
          behind_front s (record_of f (listing z s)) rest whole,
        )

    -- and what it takes are the bytes that would be written
    pub taken_is_written : taken ≡ length (record_of f (listing z s))
    taken_is_written = omega (arith, is.taken_is, ap length body_kept, length_body f (listing z s), length_record f (listing z s))
