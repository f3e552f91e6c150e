-- Each section of the state's bytes: what decides whether it has its form, and all of them together. Assumes nothing.
use Prim.Native.Nat.{ℕ, zero, suc, ◌+◌, ◌-◌, ◌*◌, ◌≤◌, ◌<◌, min}
use mathlib.Core.Path.{◌≡◌, refl, sym, ap, ap₂, ◌∙◌}
use mathlib.Core.Bool.{Bool, true, ◌&&◌, and_assoc, and_comm, and-true}
use mathlib.Core.List.{List, [], ◌∷◌, ◌++◌, map, append-nil}
use native.Mathlib.Omega.{arith}
use native.Mathlib.Nat.{not-suc-le-zero, le_of_suc-le-suc, add_assoc}
use lib.ListN.{length, get_or, take, drop, length-append, length-replicate, drop_of_length-le}
use Rattle.octets.specs.Bytes.{le, part, num, zeros, flat, items}
use Rattle.octets.specs.Sections.{concat, cuts, total}
use Rattle.octets.proofs.Laws.{Bytes, bytes_part, length_le, length_part, part_none, part_part}
use Rattle.octets.proofs.Sections.{part_whole, concat_cuts}
use Rattle.octets.proofs.Codecs.{length_items, peel_all, exact_number, row_long}
use Rattle.octets.proofs.Logic.{and_swap}
use Rattle.rules.specs.Choice.{all_of, same}
use Rattle.rules.specs.Image.{table_length, note_length, vote_length, reply_length, lengths, state_length, zero_bytes, head_section, point_bytes, table_bytes, note_bytes, notes_section, vote_bytes, reply_bytes, sections, image, point_at, table_at, note_at, vote_at, reply_at, state_in, state_of, at_end}
use Rattle.rules.specs.State.{Note}
use Rattle.rules.specs.declared.Entry.{Entry}
use Rattle.rules.specs.declared.Shape.{Shape}
use Rattle.rules.proofs.Tests.{same_self}
use Rattle.rules.proofs.Image.{long_head}
use Rattle.places.specs.Layout.{start_of, Marks}
use Rattle.places.specs.declared.Places.{Places}
use Rattle.form.specs.Sections.{section_form, tables_form}
use Rattle.form.proofs.Same.{pairs, same_concat, number_first, zeros_first, flag_long}
use Rattle.form.proofs.Parts.{part_lent, point_place, table_at_long, table_part, vote_place, reply_place, note_long}

-- ---- the head: only its five zeros can be wrong

head_form : (x : List ℕ) → Bytes x → length x ≡ 48
    → same (le 1 (num x 0 1) ++ (le 1 (num x 1 1) ++ (le 1 (num x 2 1) ++ (zero_bytes 5 ++ (le 4 (num x 8 4) ++ (le 4 (num x 12 4) ++ (le 8 (num x 16 8) ++ (le 8 (num x 24 8) ++ (le 8 (num x 32 8) ++ (le 8 (num x 40 8) ++ [])))))))))) x ≡ zeros (part x 3 5)
head_form x bs l =
    let rest : List ℕ = le 4 (num x 8 4) ++ (le 4 (num x 12 4) ++ (le 8 (num x 16 8) ++ (le 8 (num x 24 8) ++ (le 8 (num x 32 8) ++ (le 8 (num x 40 8) ++ []))))) in
    let w : part x 0 48 ≡ x = part_whole x 48 (omega arith) in
    let e : same rest (part x 8 40) ≡ true
    = number_first x 8 4 36 (omega arith) _ bs
    ∙ number_first x 12 4 32 (omega arith) _ bs
    ∙ number_first x 16 8 24 (omega arith) _ bs
    ∙ number_first x 24 8 16 (omega arith) _ bs
    ∙ number_first x 32 8 8 (omega arith) _ bs
    ∙ number_first x 40 8 0 (omega arith) [] bs
    ∙ ap (same []) (part_none x 48)
    ∙ same_self [] in
    ap (same (le 1 (num x 0 1) ++ (le 1 (num x 1 1) ++ (le 1 (num x 2 1) ++ (zero_bytes 5 ++ rest))))) (sym w)
    ∙ number_first x 0 1 47 (omega arith) _ bs
    ∙ number_first x 1 1 46 (omega arith) _ bs
    ∙ number_first x 2 1 45 (omega arith) _ bs
    ∙ zeros_first x 3 5 40 (omega arith) rest
    ∙ ap (λ (r : Bool). zeros (part x 3 5) && r) e
    ∙ and-true (zeros (part x 3 5))

-- ---- gVec: numbers alone, always right

views_form : (x : List ℕ) (s : ℕ) → Bytes x → length x ≡ 4 * s → true ≡ same (flat (le 4) (items (λ a. num x a 4) 4 0 s)) x
views_form x s bs l =
    let p : List ℕ = flat (le 4) (items (λ a. num x a 4) 4 0 s) in
    let e : drop (0 + 4 * s) x ≡ [] = drop_of_length-le x {i = 0 + 4 * s} (omega arith) in
    let q : p ≡ x = sym (append-nil p) ∙ ap (λ (r : List ℕ). p ++ r) (sym e) ∙ peel_all (exact_number 4) x 0 s bs (omega arith) in
    sym (ap (same p) (sym q) ∙ same_self p)

-- ---- the notes

-- as many as the count says, but no more than there is room for
abbrev notes_in : Shape → List ℕ → List Note
notes_in sh t = items (note_at sh.s t) (note_length sh.s) 4 (min (num t 0 4) sh.c)

notes_long : (sh : Shape) (b : List ℕ) → length (notes_section sh (notes_in sh b)) ≡ 4 + note_length sh.s * sh.c
unfolding notes_section
notes_long sh b =
    let m : ℕ = min (num b 0 4) sh.c in
    let r : m ≤ sh.c = omega arith in
    let e : sh.c ≡ m + (sh.c - m) = omega arith in
    simp (
      length-append,
      length_le,
      length-replicate,
      length_items (note_at sh.s b) (note_length sh.s) 4 m,
      row_long note_bytes (note_at sh.s) (note_length sh.s) (note_long sh.s) b 4 m,
    )
    (omega (arith, ap (λ (z : ℕ). note_length sh.s * z) e))

-- ---- the sections, whatever the bytes are

cuts_long : (b : List ℕ) (at : ℕ) (ns : List ℕ) → at + total ns ≤ length b → map length (cuts b at ns) ≡ ns
cuts_long b at [] h = refl
cuts_long b at (n ∷ ns) h = ap₂ ◌∷◌ (length_part b at n (omega arith)) (cuts_long b (at + n) ns (omega arith))

cuts_at : (b : List ℕ) (at : ℕ) (ns : List ℕ) (i : ℕ) → i < length ns → get_or (cuts b at ns) i [] ≡ part b (at + total (take i ns)) (get_or ns i 0)
cuts_at b at [] i h = absurd (not-suc-le-zero h)
cuts_at b at (n ∷ ns) zero h = ap (λ (j : ℕ). part b j n) (omega arith)
cuts_at b at (n ∷ ns) (suc i) h = cuts_at b (at + n) ns i (le_of_suc-le-suc h) ∙ ap (λ (j : ℕ). part b j (get_or ns i 0)) (add_assoc at n (total (take i ns)))

-- the sections of the state that is read, each from its own bytes
abbrev pub sections_read : Shape → List (List ℕ) → List (List ℕ)
sections_read sh ss =
    head_section (state_in sh ss)
    ∷ flat (le 4) (items (λ a. num (get_or ss 1 []) a 4) 4 0 sh.s)
    ∷ flat point_bytes (items (point_at (get_or ss 2 [])) 9 0 sh.n)
    ∷ table_bytes sh.c (table_at sh.c (get_or ss 3 []) 0)
    ∷ table_bytes sh.c (table_at sh.c (get_or ss 4 []) 0)
    ∷ table_bytes sh.c (table_at sh.c (get_or ss 5 []) 0)
    ∷ notes_section sh (notes_in sh (get_or ss 6 []))
    ∷ flat (vote_bytes sh.c) (items (vote_at sh.c (get_or ss 7 [])) (vote_length sh.c) 0 sh.n)
    ∷ table_bytes sh.c (table_at sh.c (get_or ss 8 []) 0)
    ∷ flat (reply_bytes sh.c) (items (reply_at sh.c (get_or ss 9 [])) (reply_length sh.c) 0 sh.s)
    ∷ []

read_back : (sh : Shape) (ss : List (List ℕ)) → sections sh (state_in sh ss) ≡ sections_read sh ss
unfolding state_in
read_back sh ss = refl

-- they have their lengths
pub sections_long : (sh : Shape) (ss : List (List ℕ)) → map length (sections_read sh ss) ≡ lengths sh
sections_long sh ss =
    let table = table_at_long sh.c in
    simp (
      long_head (state_in sh ss),
      row_long (le 4) (λ x a. num x a 4) 4 (λ x a. length_le 4 (num x a 4)) (get_or ss 1 []) 0 sh.s,
      row_long point_bytes point_at 9 (flag_long point_place) (get_or ss 2 []) 0 sh.n,
      table (get_or ss 3 []) 0,
      table (get_or ss 4 []) 0,
      table (get_or ss 5 []) 0,
      notes_long sh (get_or ss 6 []),
      row_long (vote_bytes sh.c) (vote_at sh.c) (vote_length sh.c) (flag_long (vote_place sh.c)) (get_or ss 7 []) 0 sh.n,
      table (get_or ss 8 []) 0,
      row_long (reply_bytes sh.c) (reply_at sh.c) (reply_length sh.c) (flag_long (reply_place sh.c)) (get_or ss 9 []) 0 sh.s,
    )

-- a section's form, by what is read back from it
pub form_is : (sh : Shape) (b : List ℕ) (i : ℕ) → section_form sh b i ≡ same (get_or (sections_read sh (cuts b 0 (lengths sh))) i []) (get_or (cuts b 0 (lengths sh)) i [])
unfolding section_form state_of
form_is sh b i = ap (λ (ss : List (List ℕ)). same (get_or ss i []) (get_or (cuts b 0 (lengths sh)) i [])) (read_back sh (cuts b 0 (lengths sh)))

module _ (sh : Shape) (b : List ℕ) (size : length b ≡ state_length sh) where
  module _ (bs : Bytes b) where
    pub head_section_lem : (r : Bool) → r ≡ zeros (part b 3 5) → r ≡ section_form sh b 0
    unfolding section_form state_of state_in head_section concat
    head_section_lem r h =
        let l : 0 + 48 ≤ length b = omega arith in
        h ∙ ap zeros (sym (part_part b 0 48 3 5 l (omega arith))) ∙ sym (head_form (part b 0 48) (bytes_part b 0 48 bs) (length_part b 0 48 l))

    views_section : true ≡ section_form sh b 1
    unfolding section_form state_of state_in
    views_section = views_form (part b (0 + 48) (4 * sh.s)) sh.s (bytes_part b (0 + 48) (4 * sh.s) bs) (length_part b (0 + 48) (4 * sh.s) (omega arith))

  -- a section that is tested as a slice of m bytes from a on, against what F makes of it
  pub lent_section : (F : List ℕ → List ℕ) (i a m : ℕ) (r : Bool) → i < at_end sh → a ≡ start_of sh i → m ≡ get_or (lengths sh) i 0 → r ≡ same (F (take m (drop a b))) (take m (drop a b)) → r ≡ same (F (get_or (cuts b 0 (lengths sh)) i [])) (get_or (cuts b 0 (lengths sh)) i [])
  lent_section F i a m r h e q f =
      f ∙ ap (λ (x : List ℕ). same (F x) x) (part_lent b a m (get_or (lengths sh) i 0) q ∙ ap (λ (j : ℕ). part b j (get_or (lengths sh) i 0)) (omega arith) ∙ sym (cuts_at b 0 (lengths sh) i h))

  -- a table that is tested where it stands
  pub table_section : (i a : ℕ) (r : Bool) → i < at_end sh → a ≡ start_of sh i → table_length sh.c ≡ get_or (lengths sh) i 0 → a + table_length sh.c ≤ length b → r ≡ same (table_bytes sh.c (table_at sh.c b a)) (part b a (table_length sh.c)) → r ≡ same (table_bytes sh.c (table_at sh.c (get_or (cuts b 0 (lengths sh)) i []) 0)) (get_or (cuts b 0 (lengths sh)) i [])
  unfolding part
  table_section i a r h e q l f =
      lent_section (λ x. table_bytes sh.c (table_at sh.c x 0)) i a (table_length sh.c) r h e q
      (f ∙ ap (λ (es : List Entry). same (table_bytes sh.c es) (part b a (table_length sh.c))) (sym (table_part sh.c b a l)))

  -- the image of the state that is read is the bytes where each section has its form
  all_sections : same (image sh (state_of sh b)) b ≡ all_of (pairs (sections_read sh (cuts b 0 (lengths sh))) (cuts b 0 (lengths sh)))
  unfolding image state_of
  all_sections =
      let ss : List (List ℕ) = cuts b 0 (lengths sh) in
      ap₂ same (ap concat (read_back sh ss)) (sym (concat_cuts b 0 (lengths sh) (omega arith)))
      ∙ same_concat (sections_read sh ss) ss (sections_long sh ss ∙ sym (cuts_long b 0 (lengths sh) (omega arith)))

  -- the points heard and the notes put last
  last_two : (a v h l e t n r d p : Bool) → (a && (v && (h && (l && (e && (t && (n && (r && (d && (p && true)))))))))) ≡ ((a && (v && (l && (e && (t && (r && (d && (p && true)))))))) && (h && n))
  last_two a v h l e t n r d p =
      let x : Bool = r && (d && (p && true)) in
      let y : Bool = l && (e && (t && x)) in
      let q : (l && (e && (t && (n && x)))) ≡ (y && n)
      = ap (λ (z : Bool). l && (e && (t && z))) (and_comm n x)
      ∙ ap (λ (z : Bool). l && (e && z)) (sym (and_assoc t x n))
      ∙ ap (λ (z : Bool). l && z) (sym (and_assoc e (t && x) n))
      ∙ sym (and_assoc l (e && (t && x)) n) in
      ap (λ (z : Bool). a && (v && (h && z))) q
      ∙ ap (λ (z : Bool). a && (v && z)) (and_swap h y n)
      ∙ ap (λ (z : Bool). a && z) (sym (and_assoc v y (h && n)))
      ∙ sym (and_assoc a (v && y) (h && n))

  pub all_form : same (image sh (state_of sh b)) b ≡ (tables_form sh b && (section_form sh b 2 && section_form sh b 6))
  unfolding tables_form all_of section_form state_of state_in
  all_form = let f : ℕ → Bool = section_form sh b in all_sections ∙ last_two (f 0) (f 1) (f 2) (f 3) (f 4) (f 5) (f 6) (f 7) (f 8) (f 9)

  pub tables_whole : Bytes b → (head log early late votes draft replies : Bool)
      → head ≡ section_form sh b 0 → log ≡ section_form sh b 3 → early ≡ section_form sh b 4 → late ≡ section_form sh b 5 → votes ≡ section_form sh b 7 → draft ≡ section_form sh b 8 → replies ≡ section_form sh b 9
      → (head && ((log && (early && late)) && (votes && (draft && replies)))) ≡ tables_form sh b
  unfolding tables_form all_of
  tables_whole bs head log early late votes draft replies e0 e3 e4 e5 e7 e8 e9 =
      rw (← e0, ← views_section bs, ← e3, ← e4, ← e5, ← e7, ← e8, ← e9, and-true replies, and_assoc log (early && late), and_assoc early late)

-- ---- where the sections begin and how long they are, as the calls ask it

pub record Bounds (sh : Shape) (p : Places) (len : ℕ) : Type 0 where
  pub log : p.log + table_length sh.c ≤ len
  pub early : p.early + table_length sh.c ≤ len
  pub late : p.late + table_length sh.c ≤ len
  pub votes : p.votes ≤ p.draft
  pub votes_end : p.draft ≤ len
  pub votes_wide : p.draft - p.votes ≡ vote_length sh.c * sh.n
  pub draft : p.draft + table_length sh.c ≤ len
  pub replies : p.replies ≤ p.end
  pub replies_end : p.end ≤ len
  pub replies_wide : p.end - p.replies ≡ reply_length sh.c * sh.s

pub bounds : (sh : Shape) (p : Places) (len : ℕ) → Marks sh p → len ≡ state_length sh → Bounds sh p len
bounds sh p len m e =
    record {
      log = omega arith;
      early = omega arith;
      late = omega arith;
      votes = omega arith;
      votes_end = omega arith;
      votes_wide = omega arith;
      draft = omega arith;
      replies = omega arith;
      replies_end = omega arith;
      replies_wide = omega arith;
    }
