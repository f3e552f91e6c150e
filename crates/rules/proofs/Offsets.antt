-- Where a message is wrong, apart from the fold that finds it: a well-formed message that is cut gives its length (cut), bytes behind it give where they begin (behind),
-- and bytes that are its own up to a field that is wrong give where that field begins (first_wrong_lem). Assumes nothing.
use Rattle.std.specs.Prelude.{Ok, Err}
use Prim.Native.Nat.{ℕ, zero, suc, ◌+◌, ◌*◌, ◌≤◌, ◌<◌, min}
use mathlib.Core.Path.{◌≡◌, refl, sym, ap, subst, ◌∙◌}
use mathlib.Core.Bool.{Bool, true, false, ◌&&◌, true≢false}
use mathlib.Core.List.Memᴰ
use mathlib.Core.List.{List, [], ◌∷◌, ◌++◌, Memᴰ}
use native.Mathlib.Omega.{arith}
use native.Mathlib.Decide.{dec_le, dec_lt}
use native.Mathlib.Nat.{not-suc-le-zero, le_refl}
use lib.ListN.{length, take, drop, length-append, length-take}
use lib.Seq.{length-take-le, take-take, take-append-le}
use lib.Dec.{eqb, ltb}
use borrow.Author.Tests.{eqb-true, eqb-false, lt-ltb, ltb-true, leb-true, leb-false}
use Rattle.octets.specs.Bytes.{unle, part, num}
use Rattle.octets.proofs.Laws.{num_part}
use Rattle.octets.proofs.Codecs.{All}
use Rattle.rules.specs.Choice.{pick, when, any}
use Rattle.rules.specs.Group.{sizes_fit}
use Rattle.rules.specs.Log.{stands}
use Rattle.rules.specs.Kind.{numbers_in, with_log}
use Rattle.rules.specs.Wire.{Wire, wire_bytes}
use Rattle.rules.specs.Read.{Fields, Row, ◌to◌is◌, head_rows, body_rows, number_rows, number_fits, entry_rows, entry_at, fields_at, fields_in, numbers_at, entries_at, length_for, length_at, first_wrong, and_then, message_wrong, whole_in, wire_in, Read, malformed, message, judged, verdict_in, read, formed}
use Rattle.rules.specs.Read.{Verdict}
use Rattle.rules.proofs.Tests.{◌also◌, and_l, and_r, and_both, when_so, so_when}
use Rattle.rules.proofs.Choice.{by_test, by_cases, clash, all_append, all_map}
use Rattle.rules.proofs.Entries.{entry_part}
use Rattle.rules.proofs.Verdicts.{entries_rows, rows_of, message_rows, Rights, message_right, stands_ext, number_ext, count_ext}
use Rattle.rules.proofs.Messages.{not_message, read_write, read_fine}

-- ---- the rows of a message stand in wire order

-- rows that stand one behind the other, from lo to hi
abbrev Span : ℕ → ℕ → List Row → Type 0
Span lo hi [] = lo ≤ hi
Span lo hi (r ∷ rs) = (lo ≤ r.at) × ((r.at ≤ r.end) × Span r.end hi rs)

span_from : (lo low hi : ℕ) (rs : List Row) → lo ≤ low → Span low hi rs → Span lo hi rs
span_from lo low hi [] l h = omega arith
span_from lo low hi (r ∷ rs) l h = (omega (arith, h.0), h.1)

span_least : (lo hi : ℕ) (rs : List Row) → Span lo hi rs → lo ≤ hi
span_least lo hi [] h = h
span_least lo hi (r ∷ rs) h = omega (arith, h.0, h.1.0, span_least r.end hi rs h.1.1)

span_append : (lo mid hi : ℕ) (xs ys : List Row) → Span lo mid xs → Span mid hi ys → Span lo hi (xs ++ ys)
span_append lo mid hi [] ys a b = span_from lo mid hi ys a b
span_append lo mid hi (x ∷ xs) ys a b = (a.0, (a.1.0, span_append x.end mid hi xs ys a.1.1 b))

module _ (s : ℕ) (m : Fields) where
  abbrev numbers_from : ℕ
  numbers_from = numbers_at s m.kind + 4

  abbrev entries_from : ℕ
  entries_from = entries_at s m.kind + 4

  numbers_span : (i : ℕ) → Span numbers_from (numbers_from + 8 * i) (number_rows s m i)
  unfolding number_rows
  numbers_span zero = omega arith
  numbers_span (suc i) = span_append _ (numbers_from + 8 * i) _ (number_rows s m i) _ (numbers_span i) (omega arith also omega arith also omega arith)

  entry_span : (whole i : ℕ) → Span (entries_from + 24 * i) (entries_from + 24 * suc i) (entry_rows s m whole i)
  entry_span whole i =
      omega arith also omega arith also omega arith also omega arith also omega arith also omega arith also omega arith also omega arith also omega arith also omega arith also omega arith

  entries_span : (whole i : ℕ) → Span entries_from (entries_from + 24 * i) (entries_rows s m whole i)
  unfolding entries_rows
  entries_span whole zero = omega arith
  entries_span whole (suc i) = span_append _ (entries_from + 24 * i) _ (entries_rows s m whole i) _ (entries_span whole i) (entry_span whole i)

  body_span : Span 12 entries_from (body_rows s m)
  body_span =
      omega arith also omega arith also omega arith also omega arith
      also span_append _ (numbers_from + 8 * numbers_in m.kind) _ (number_rows s m (numbers_in m.kind)) _ (numbers_span (numbers_in m.kind)) (omega arith also omega arith also omega arith)

  head_span : (n : ℕ) → Span 0 12 (head_rows n s m)
  head_span n =
      omega arith also omega arith also omega arith also omega arith also omega arith also omega arith also omega arith also omega arith
      also omega arith also omega arith also omega arith also omega arith also omega arith also omega arith also omega arith

  message_span : (n whole seen : ℕ) → Span 0 (entries_from + 24 * seen) (rows_of n s m whole seen)
  message_span n whole seen =
      span_append 0 12 (entries_from + 24 * seen) (head_rows n s m) (body_rows s m ++ entries_rows s m whole seen) (head_span n)
      (span_append 12 entries_from (entries_from + 24 * seen) (body_rows s m) (entries_rows s m whole seen) body_span (entries_span whole seen))

-- a row lies in the span, and no other reaches over its beginning
span_among : (r : Row) (lo hi : ℕ) (rs : List Row) → Span lo hi rs → Memᴰ r rs → (lo ≤ r.at) × ((r.at ≤ r.end) × (r.end ≤ hi))
span_among r lo hi [] h i = elim i [ ]
span_among r lo hi (q ∷ rs) h (Memᴰ.head e) = rw e (h.0, (h.1.0, span_least q.end hi rs h.1.1))
span_among r lo hi (q ∷ rs) h (Memᴰ.tail i) =
    let t = span_among r q.end hi rs h.1.1 i in
    (omega (arith, h.0, h.1.0, t.0), t.1)

span_apart : (q r : Row) (lo hi : ℕ) (rs : List Row) → Span lo hi rs → Memᴰ q rs → Memᴰ r rs → q.at < r.at → q.end ≤ r.at
span_apart q r lo hi [] h i j l = elim i [ ]
span_apart q r lo hi (p ∷ rs) h (Memᴰ.head d) (Memᴰ.head e) l = absurd (omega (arith, ap (λ (t : Row). t.at) (d ∙ sym e)))
span_apart q r lo hi (p ∷ rs) h (Memᴰ.head d) (Memᴰ.tail j) l = rw d (span_among r p.end hi rs h.1.1 j).0
span_apart q r lo hi (p ∷ rs) h (Memᴰ.tail i) (Memᴰ.head e) l =
    let t = span_among q p.end hi rs h.1.1 i in
    absurd (omega (arith, ap (λ (t : Row). t.at) e, h.1.0, t.0))
span_apart q r lo hi (p ∷ rs) h (Memᴰ.tail i) (Memᴰ.tail j) l = span_apart q r p.end hi rs h.1.1 i j l

all_among : (P : Row → Type 0) (rs : List Row) → All P rs → (r : Row) → Memᴰ r rs → P r
all_among P [] h r i = elim i [ ]
all_among P (q ∷ rs) h r (Memᴰ.head e) = rw e h.0
all_among P (q ∷ rs) h r (Memᴰ.tail i) = all_among P rs h.1 r i

-- ---- what is told of a wrong field

-- if one is told, this holds of where it begins and ends
abbrev Told : (ℕ → ℕ → Type 0) → Verdict → Type 0
Told P (Ok o) = Unit {0}
Told P (Err w) = P w.at w.end

rows_told : (P : ℕ → ℕ → Type 0) (rs : List Row) → ((r : Row) → Memᴰ r rs → r.right ≡ false → P r.at r.end) → Told P (first_wrong rs)
unfolding first_wrong
rows_told P [] h = tt
rows_told P (r ∷ rs) h = by_test (Told P) r.right (λ t. rows_told P rs (λ q i. h q (Memᴰ.tail i))) (h r (Memᴰ.head refl))

-- one is told, which begins by x and ends by e
abbrev Reached : ℕ → ℕ → Verdict → Type 0
Reached x e (Ok o) = ⊥
Reached x e (Err w) = (w.at ≤ x) × (w.end ≤ e)

rows_reached : (r : Row) (lo hi : ℕ) (rs : List Row) → Span lo hi rs → Memᴰ r rs → r.right ≡ false → Reached r.at r.end (first_wrong rs)
unfolding first_wrong pick
rows_reached r lo hi [] h i f = elim i [ ]
rows_reached r lo hi (q ∷ rs) h (Memᴰ.head e) f = rw (← e, f) (le_refl _, le_refl _)
rows_reached r lo hi (q ∷ rs) h (Memᴰ.tail i) f =
    let t = span_among r q.end hi rs h.1.1 i in
    by_test (Reached r.at r.end) q.right (λ g. rows_reached r q.end hi rs h.1.1 i f) (λ g. (omega (arith, h.1.0, t.0), omega (arith, t.0, t.1.0)))

-- ---- the rows that are gone through in bytes

-- how many entries are whole in bytes which say that their kind is k, how many are looked at, and where entry i begins
abbrev pub whole_at : ℕ → ℕ → List ℕ → ℕ
whole_at s k b = whole_in (length b) (entries_at s k + 4)

abbrev pub seen_at : ℕ → ℕ → List ℕ → ℕ
seen_at s k b = min (num b (entries_at s k) 4) (suc (whole_at s k b))

abbrev pub entry_place : ℕ → ℕ → ℕ → ℕ
entry_place s k i = entries_at s k + 4 + 24 * i

abbrev pub rows_at : ℕ → ℕ → ℕ → List ℕ → List Row
rows_at n s k b = rows_of n s (fields_at s k b) (whole_at s k b) (seen_at s k b)

abbrev pub rows_in : ℕ → ℕ → List ℕ → List Row
rows_in n s b = rows_at n s (num b 0 1) b

rows_span : (n s : ℕ) (b : List ℕ) → Span 0 (entry_place s (num b 0 1) (seen_at s (num b 0 1) b)) (rows_in n s b)
unfolding fields_at
rows_span n s b = message_span s (fields_in s b) n _ _

read_rows : (n s : ℕ) (b : List ℕ) → read n s b ≡ judged (length b) (length_at s b) (wire_in s b) (first_wrong (rows_in n s b))
unfolding read verdict_in fields_at
read_rows n s b = ap (judged (length b) (length_at s b) (wire_in s b)) (message_rows n s (fields_in s b) _ _)

-- ---- the place of a malformed message is in it, or its end
place : {a b : ℕ} → malformed a ≡ malformed b → a ≡ b
place e = cc

judged_place : (len end a : ℕ) (u : Wire) (v : Verdict) → Told (λ x y. x ≤ y) v → judged len end u v ≡ malformed a → a ≤ len
unfolding judged
judged_place len end a u (Ok o) t e = by_test (λ (r : Read). r ≡ malformed a → a ≤ len) (eqb len end) (λ q h. absurd (not_message a u (sym h))) (λ q h. omega (arith, place h)) e
judged_place len end a u (Err w) t e = by_test (λ (p : ℕ). p ≡ a → a ≤ len) _ (λ q h. omega (arith, leb-true _ len q, t, h)) (λ q h. omega (arith, h)) (place e)

pub malformed_place : (n s : ℕ) (b : List ℕ) (a : ℕ) → read n s b ≡ malformed a → a ≤ length b
malformed_place n s b a e =
    let rows : List Row = rows_in n s b in
    judged_place _ _ a (wire_in s b) _ (rows_told (λ x y. x ≤ y) rows (λ r i f. (span_among r 0 _ rows (rows_span n s b) i).1.0)) (sym (read_rows n s b) ∙ e)

-- ---- a field is wrong at x

-- the row of entry i as one of a log
abbrev pub log_row : ℕ → ℕ → List ℕ → ℕ → Row
log_row s k b i = entry_place s k i to entry_place s k i is when (with_log k && ltb i (whole_at s k b)) (stands s (num b 1 1) (λ j. entry_at b (entry_place s k j)) i)

-- an entry that begins before x and ends behind it is none of a log, or is cut, or stands
abbrev pub Unbroken : ℕ → ℕ → List ℕ → ℕ → Type 0
Unbroken s k b x = (i : ℕ) → i < seen_at s k b → entry_place s k i < x → x < entry_place s k (suc i) → (log_row s k b i).right ≡ true

-- a field that begins at x is wrong and is not cut; if it stands inside an entry, that entry does not break its log, which would be wrong where the entry begins
pub record WrongAt (n s : ℕ) (b : List ℕ) (x : ℕ) : Type 0 where
  pub row : Row
  pub among : Memᴰ row (rows_in n s b)
  pub begins : row.at ≡ x
  pub wrong : row.right ≡ false
  pub whole : row.end ≤ length b
  pub unbroken : Unbroken s (num b 0 1) b x

entries_among : (s : ℕ) (m : Fields) (whole n i : ℕ) (r : Row) → i < n → Memᴰ r (entry_rows s m whole i) → Memᴰ r (entries_rows s m whole n)
unfolding entries_rows
entries_among s m whole zero i r l h = absurd (not-suc-le-zero l)
entries_among s m whole (suc n) i r l h =
    by_cases (eqb i n) (λ q. Memᴰ.append_right (entries_rows s m whole n) (subst (λ (j : ℕ). Memᴰ r (entry_rows s m whole j)) (eqb-true i n q) h))
    (λ q. let z : i ≡ n → ⊥ = eqb-false i n q in Memᴰ.append_left (entry_rows s m whole n) (entries_among s m whole n i r (omega arith) h))

-- so a field of the header, a count or a number, and a field of an entry that is looked at
module _ (n s : ℕ) (b : List ℕ) (r : Row) (wrong : r.right ≡ false) (whole : r.end ≤ length b) where
  abbrev fields : Fields
  fields = fields_in s b

  pub head_wrong : Memᴰ r (head_rows n s fields) → WrongAt n s b r.at
  head_wrong h =
      let t = span_among r 0 12 (head_rows n s fields) (head_span s fields n) h in
      record { row = r; among = Memᴰ.append_left _ h; begins = refl; wrong = wrong; whole = whole; unbroken = λ i l p q. absurd (omega (arith, t.1.0, t.1.1)) }

  pub body_wrong : Memᴰ r (body_rows s fields) → WrongAt n s b r.at
  unfolding fields_at
  body_wrong h =
      let t = span_among r 12 _ (body_rows s fields) (body_span s fields) h in
      record { row = r; among = Memᴰ.append_right (head_rows n s fields) (Memᴰ.append_left _ h); begins = refl; wrong = wrong; whole = whole; unbroken = λ i l p q. absurd (omega (arith, t.1.0, t.1.1)) }

  pub entry_wrong : (i : ℕ) → i < seen_at s (num b 0 1) b → Memᴰ r (entry_rows s fields (whole_at s (num b 0 1) b) i)
      → (entry_place s (num b 0 1) i < r.at → (log_row s (num b 0 1) b i).right ≡ true) → WrongAt n s b r.at
  unfolding fields_at
  entry_wrong i l h log =
      let k : ℕ = num b 0 1 in
      let t = span_among r _ _ (entry_rows s fields (whole_at s k b) i) (entry_span s fields (whole_at s k b) i) h in
      let only : (j : ℕ) → entry_place s k j < r.at → r.at < entry_place s k (suc j) → j ≡ i = λ j p q. omega (arith, t.0, t.1.0, t.1.1) in
      record {
        row = r;
        among = Memᴰ.append_right (head_rows n s fields) (Memᴰ.append_right (body_rows s fields) (entries_among s fields (whole_at s k b) (seen_at s k b) i r l h));
        begins = refl;
        wrong = wrong;
        whole = whole;
        unbroken = λ j g p q. let e : j ≡ i = only j p q in rw e (log (rw e at p));
      }

-- ---- bytes b that begin, up to x, as the bytes v of a message do

record Begins (n s : ℕ) (v : List ℕ) (w : Wire) (x : ℕ) (b : List ℕ) : Type 0 where
  told : read n s v ≡ message w
  there : x ≤ length v
  here : x ≤ length b
  alike : take x b ≡ take x v

-- a row that is right if it ends by x; if it is wrong, ends behind x; or else ends behind x or begins there
abbrev RightBy : ℕ → Row → Type 0
RightBy x r = r.end ≤ x → r.right ≡ true

abbrev EndsPast : ℕ → Row → Type 0
EndsPast x r = r.right ≡ false → x < r.end

abbrev BeginsPast : ℕ → Row → Type 0
BeginsPast x r = r.right ≡ false → r.end ≤ x → x ≤ r.at

when_wrong : (a b : Bool) → when a b ≡ false → a ≡ true
when_wrong true b e = refl
when_wrong false b e = absurd (true≢false e)

module _ {n s : ℕ} {v : List ℕ} {w : Wire} {x : ℕ} {b : List ℕ} (h : Begins n s v w x b) where
  abbrev k : ℕ
  k = num v 0 1

  abbrev count : ℕ
  count = num v (entries_at s k) 4

  rights : Rights n s (fields_at s k v) count count
  rights = message_right n s (fields_in s v) _ _ (read_fine n s v w h.told).0

  long : length v ≡ length_at s v
  long = (read_fine n s v w h.told).1

  same : (a j : ℕ) → a + j ≤ x → num b a j ≡ num v a j
  unfolding part
  same a j l = sym (num_part b 0 x a a j (omega (arith, h.here)) l (omega arith)) ∙ ap (λ (p : List ℕ). num p a j) h.alike ∙ num_part v 0 x a a j (omega (arith, h.there)) l (omega arith)

  same_entry : (a : ℕ) → a + 24 ≤ x → entry_at b a ≡ entry_at v a
  unfolding part
  same_entry a l = sym (entry_part b 0 x a a (omega (arith, h.here)) l (omega arith)) ∙ ap (λ (p : List ℕ). entry_at p a) h.alike ∙ entry_part v 0 x a a (omega (arith, h.there)) l (omega arith)

  -- a field that ends by x is right: it is the message's
  head_kept : All (RightBy x) (head_rows n s (fields_at s k b))
  unfolding fields_at
  head_kept =
      let t = rights.head in
      (λ l. t 0)
      also (λ l. rw (same 1 1 l) (t 1))
      also (λ l. rw (same 2 1 l) (t 2))
      also (λ l. rw (same 3 1 l) (t 3))
      also (λ l. rw (same 4 1 l) (t 4))
      also (λ l. rw (same 5 3 l) (t 5))
      also (λ l. rw (same 8 4 l) (t 6))
      also tt

  numbers_same : (j : ℕ) → numbers_at s k + 4 + 8 * j ≤ x → (i : ℕ) → i < j → num b (numbers_at s k + 4 + 8 * i) 8 ≡ num v (numbers_at s k + 4 + 8 * i) 8
  numbers_same j l i g = same (numbers_at s k + 4 + 8 * i) 8 (omega arith)

  number_kept : (j : ℕ) → j < numbers_in k → numbers_at s k + 4 + 8 * suc j ≤ x → number_fits (fields_at s k b) j ≡ true
  unfolding fields_at
  number_kept j g l = number_ext (fields_at s k b) _ _ (entry_at b) (entry_at b) j (numbers_same (suc j) l) ∙ rw (same 8 4 (omega arith)) (rights.number j g)

  numbers_kept : (i : ℕ) → i ≤ numbers_in k → All (RightBy x) (number_rows s (fields_at s k b) i)
  unfolding number_rows fields_at
  numbers_kept zero l = tt
  numbers_kept (suc i) l = all_append _ (number_rows s (fields_at s k b) i) _ (numbers_kept i (omega arith)) ((λ g. number_kept i l (omega arith)) also tt)

  body_kept : All (RightBy x) (body_rows s (fields_at s k b))
  unfolding fields_at
  body_kept =
      (λ l. rw (same 12 4 l) rights.views)
      also (λ l. rw (same (numbers_at s k) 4 l) rights.count)
      also all_append _ (number_rows s (fields_at s k b) (numbers_in k)) _ (numbers_kept (numbers_in k) (le_refl _))
      ((λ l. count_ext (fields_at s k b) _ _ (entry_at b) (entry_at b) (numbers_same (numbers_in k) (omega arith)) ∙ rw (same (entries_at s k) 4 l) rights.entries) also tt)

  counted : (i : ℕ) → i < num b (entries_at s k) 4 → entries_at s k + 4 ≤ x → i < count
  counted i g l = omega (arith, same (entries_at s k) 4 l)

  -- an entry that ends by x stands in its log
  log_kept : (i : ℕ) → i < num b (entries_at s k) 4 → entry_place s k (suc i) ≤ x → (log_row s k b i).right ≡ true
  unfolding fields_at
  log_kept i g l =
      let c : i < count = counted i g (omega arith) in
      when_so (with_log k && ltb i (whole_at s k b)) _
      (λ t.
      stands_ext (λ j. entry_at b (entry_place s k j)) (λ j. entry_at v (entry_place s k j)) s (num b 1 1) i (λ j q. same_entry (entry_place s k j) (omega arith))
      ∙ rw (same 1 1 (omega arith)) (so_when (with_log k && ltb i count) _ (rights.entry i c 0) (and_both _ _ (and_l (with_log k) (ltb i (whole_at s k b)) t) (lt-ltb i count c))))

  -- so what holds of each field that is right if it ends by x, and of the rows of a log, holds of all
  module _ (P : Row → Type 0) (given : (r : Row) → RightBy x r → P r) where
    entry_kept : (i : ℕ) → i < num b (entries_at s k) 4 → P (log_row s k b i) → All P (entry_rows s (fields_at s k b) (whole_at s k b) i)
    unfolding fields_at entry_at
    entry_kept i g log =
        let a = entry_place s k i in
        let t : a ≤ x → (j : ℕ) → _ = λ l. rights.entry i (counted i g (omega arith)) in
        log
        also all_map given (drop 1 (entry_rows s (fields_at s k b) (whole_at s k b) i))
        ((λ l. rw (same a 8 l) (t (omega arith) 1))
        also (λ l. rw (same (a + 16) 4 (omega arith)) (t (omega arith) 2))
        also (λ l. rw (same (a + 20) 2 (omega arith)) (t (omega arith) 3))
        also (λ l. rw (same (a + 22) 2 (omega arith), same 1 1 (omega arith), same 3 1 (omega arith)) (t (omega arith) 4))
        also tt)

    entries_kept : (seen : ℕ) → seen ≤ num b (entries_at s k) 4 → ((i : ℕ) → i < seen → P (log_row s k b i)) → All P (entries_rows s (fields_at s k b) (whole_at s k b) seen)
    unfolding entries_rows
    entries_kept zero l logs = tt
    entries_kept (suc i) l logs =
        all_append P (entries_rows s (fields_at s k b) (whole_at s k b) i) _ (entries_kept i (omega arith) (λ j g. logs j (omega arith))) (entry_kept i l (logs i (omega arith)))

    rows_kept : ((i : ℕ) → i < seen_at s k b → P (log_row s k b i)) → All P (rows_at n s k b)
    rows_kept logs =
        let head = head_rows n s (fields_at s k b) in
        let body = body_rows s (fields_at s k b) in
        let entries = entries_rows s (fields_at s k b) (whole_at s k b) (seen_at s k b) in
        all_append P head (body ++ entries) (all_map given head head_kept) (all_append P body entries (all_map given body body_kept) (entries_kept (seen_at s k b) (omega arith) logs))

  module _ (some : 1 ≤ x) where
    kinds_same : num b 0 1 ≡ k
    kinds_same = same 0 1 some

    -- a wrong field ends behind x, where no entry is whole but those that end by x
    past : ((i : ℕ) → i < seen_at s k b → i < whole_at s k b → entry_place s k (suc i) ≤ x) → All (EndsPast x) (rows_in n s b)
    past ends =
        rw kinds_same (rows_kept (EndsPast x) (λ r g f. go r g f (dec_le r.end x)) (λ i g f.
        let t = when_wrong (with_log k && ltb i (whole_at s k b)) _ f in
        clash _ (log_kept i (omega arith) (ends i g (ltb-true i (whole_at s k b) (and_r (with_log k) _ t)))) f))
      where
        go : (r : Row) → RightBy x r → r.right ≡ false → Dec (r.end ≤ x) → x < r.end
        go r g f (yes q) = clash r.right (g q) f
        go r g f (no q) = omega arith

    -- none begins before x and ends by it
    before : Unbroken s k b x → All (BeginsPast x) (rows_in n s b)
    before logs =
        rw kinds_same (rows_kept (BeginsPast x) (λ r g f q. clash r.right (g q) f) (λ i g f q. go i g f (dec_lt (entry_place s k i) x) (dec_le (entry_place s k (suc i)) x)))
      where
        go : (i : ℕ) → i < seen_at s k b → (log_row s k b i).right ≡ false → Dec (entry_place s k i < x) → Dec (entry_place s k (suc i) ≤ x) → x ≤ entry_place s k i
        go i g f (yes p) (yes q) = clash _ (log_kept i (omega arith) q) f
        go i g f (yes p) (no q) = clash _ (logs i g p (omega arith)) f
        go i g f (no p) d = omega arith

    -- what b begins with ends behind x, where v does
    end_past : x < length v → x < length_at s b
    end_past l = rw kinds_same (go (dec_le (entries_at s k + 4) x))
      where
        go : Dec (entries_at s k + 4 ≤ x) → x < length_for s k (num b (entries_at s k) 4)
        go (yes q) = omega (arith, same (entries_at s k) 4 q, long)
        go (no q) = omega arith

-- ---- what is judged

judged_cut : (len end x : ℕ) (u : Wire) (v : Verdict) → len ≡ x → x < end → Told (λ a u. x < u) v → judged len end u v ≡ malformed x
unfolding judged
judged_cut len end x u (Ok o) e l t = by_test (λ (r : Read). r ≡ malformed x) (eqb len end) (λ q. absurd (omega (arith, eqb-true len end q))) (λ q. ap malformed (omega arith))
judged_cut len end x u (Err w) e l t = by_test (λ (p : ℕ). malformed p ≡ malformed x) _ (λ q. absurd (omega (arith, leb-true _ len q, t))) (λ q. ap malformed e)

judged_behind : (len end x : ℕ) (u : Wire) (v : Verdict) → end ≡ x → x < len → Told (λ a u. ⊥) v → judged len end u v ≡ malformed x
unfolding judged
judged_behind len end x u (Ok o) e l t = by_test (λ (r : Read). r ≡ malformed x) (eqb len end) (λ q. absurd (omega (arith, eqb-true len end q))) (λ q. ap malformed (omega arith))
judged_behind len end x u (Err w) e l t = absurd t

judged_at : (len end x z : ℕ) (u : Wire) (v : Verdict) → z ≤ len → Reached x z v → Told (λ a u. x ≤ a) v → judged len end u v ≡ malformed x
unfolding judged
judged_at len end x z u (Ok o) l r t = absurd r
judged_at len end x z u (Err w) l r t =
    by_test (λ (p : ℕ). malformed p ≡ malformed x) _ (λ q. ap malformed (omega (arith, r.0, t))) (λ q. absurd (omega (arith, leb-false _ len q, r.1)))

empty : (n s : ℕ) → read n s [] ≡ malformed 0
unfolding read verdict_in message_wrong fields_at first_wrong and_then judged pick num part unle any
empty n s = refl

-- ---- the three laws, of bytes v that are read as a message

module _ (n s : ℕ) (v : List ℕ) (w : Wire) (told : read n s v ≡ message w) where
  cut_at : (x : ℕ) → x < length v → read n s (take x v) ≡ malformed x
  cut_at zero l = empty n s
  cut_at (suc i) l =
      let x : ℕ = suc i in
      let b : List ℕ = take x v in
      let lb : length b ≡ x = length-take-le x v (omega arith) in
      let h : Begins n s v w x b = record { told = told; there = omega arith; here = omega arith; alike = take-take x x v (le_refl x) } in
      read_rows n s b
      ∙ judged_cut (length b) (length_at s b) x (wire_in s b) _ lb (end_past h (omega arith) l)
      (rows_told _ (rows_in n s b) (all_among (EndsPast x) (rows_in n s b) (past h (omega arith) (λ i p q. omega arith))))

  longer : (more : List ℕ) → 0 < length more → read n s (v ++ more) ≡ malformed (length v)
  longer more l =
      let x : ℕ = length v in
      let k : ℕ = num v 0 1 in
      let b : List ℕ = v ++ more in
      let lb : length b ≡ x + length more = length-append v more in
      let h : Begins n s v w x b = record { told = told; there = le_refl x; here = omega arith; alike = take-append-le x v more (le_refl x) } in
      let lv : x ≡ length_at s v = long h in
      let count : num b (entries_at s k) 4 ≡ num v (entries_at s k) 4 = same h (entries_at s k) 4 (omega arith) in
      let end : length_at s b ≡ x = rw (kinds_same h (omega arith), count) (sym lv) in
      let ends = past h (omega arith) (λ i p q. omega arith) in
      read_rows n s b
      ∙ judged_behind (length b) (length_at s b) x (wire_in s b) _ end (omega arith)
      (rows_told _ (rows_in n s b) (λ r i f.
      let t = span_among r 0 _ (rows_in n s b) (rows_span n s b) i in
      omega (arith, all_among (EndsPast x) (rows_in n s b) ends r i f, t.1.1)))

  wrong_at : (b : List ℕ) (r : Row) → Memᴰ r (rows_in n s b) → r.right ≡ false → r.end ≤ length b → Unbroken s (num b 0 1) b r.at → take r.at b ≡ take r.at v → read n s b ≡ malformed r.at
  wrong_at b r i f l logs e =
      let x : ℕ = r.at in
      let rows : List Row = rows_in n s b in
      let span = rows_span n s b in
      let end : x ≤ r.end = (span_among r 0 _ rows span i).1.0 in
      let h : Begins n s v w x b = record { told = told; there = omega (arith, simp length-take at (ap length e)); here = omega arith; alike = e } in
      let right : 1 ≤ x → All (BeginsPast x) rows = λ some. before h some (subst (λ (k : ℕ). Unbroken s k b x) (kinds_same h some) logs) in
      let later : (q : Row) → Memᴰ q rows → q.right ≡ false → Dec (q.at < x) → x ≤ q.at =
      λ q j g d. elim d [ yes p ↦ all_among (BeginsPast x) rows (right (omega arith)) q j g (span_apart q r 0 _ rows span j i p) | no p ↦ omega arith ] in
      read_rows n s b
      ∙ judged_at (length b) (length_at s b) x r.end (wire_in s b) _ l (rows_reached r 0 _ rows span i f) (rows_told (λ a u. x ≤ a) rows (λ q j g. later q j g (dec_lt q.at x)))

-- ---- a message that is well formed

module _ (n s : ℕ) (w : Wire) (fit : sizes_fit n s ≡ true) (good : formed n s w ≡ true) where
  -- cut anywhere: its length
  pub cut : (k : ℕ) → k < length (wire_bytes w) → read n s (take k (wire_bytes w)) ≡ malformed k
  cut = cut_at n s (wire_bytes w) w (read_write n s w fit good)

  -- with bytes behind it: where they begin
  pub behind : (more : List ℕ) → 0 < length more → read n s (wire_bytes w ++ more) ≡ malformed (length (wire_bytes w))
  behind = longer n s (wire_bytes w) w (read_write n s w fit good)

  -- bytes that are its own up to a field that is wrong: where that field begins
  pub first_wrong_lem : (b : List ℕ) (x : ℕ) → WrongAt n s b x → take x b ≡ take x (wire_bytes w) → read n s b ≡ malformed x
  first_wrong_lem b x h e =
      let q : h.row.at ≡ x = h.begins in
      wrong_at n s (wire_bytes w) w (read_write n s w fit good) b h.row h.among h.wrong h.whole (rw q h.unbroken) (rw q e) ∙ ap malformed q
