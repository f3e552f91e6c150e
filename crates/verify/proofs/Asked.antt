-- The entries that are lent, and those of them that are asked for: counted, written and put in order. Assumes nothing.
use Prim.Native.Nat.{ℕ, zero, suc, ◌+◌, ◌-◌, ◌*◌, ◌/◌, ◌≤◌, ◌<◌}
use mathlib.Core.Path.{◌≡◌, refl, sym, ap, ◌∙◌}
use mathlib.Core.Bool.{Bool, true, false}
use mathlib.Core.List.{List, [], ◌∷◌, ◌++◌, append-nil}
use native.Mathlib.Omega.{arith}
use native.Mathlib.Nat.{zero-add, le_trans, mul-div_cancel_left}
use native.Mathlib.Numerals.{add-one}
use lib.ListN.{length, take, drop, length-append}
use lib.Seq.{length-take-le}
use lib.Dec.{eqb, leb, lit<}
use borrow.Author.Tests.{leb-true, leb-false}
use Rattle.octets.specs.Bytes.{le, num, part, splice, flat, items}
use Rattle.octets.proofs.Laws.{Bytes, length_le, length_splice, part_at, part_splice_same, splice_at, splice_home, splice_next, splice_none}
use Rattle.octets.proofs.Codecs.{All, length_items}
use Rattle.rules.specs.Choice.{pick, keep}
use Rattle.rules.specs.Entry.{ordered}
use Rattle.rules.specs.Wire.{entry_bytes}
use Rattle.rules.specs.Read.{entry_at}
use Rattle.rules.specs.State.{State}
use Rattle.rules.specs.Image.{zero_bytes, table_bytes, table_at}
use Rattle.rules.specs.Step.{source, asked}
use Rattle.rules.specs.declared.Entry.{Entry}
use Rattle.rules.specs.declared.Shape.{Shape}
use Rattle.rules.proofs.Choice.{by_cases, by_test, pick_true, pick_false, all_keep, length_keep}
use Rattle.rules.proofs.Order.{ordered_length}
use Rattle.rules.proofs.Entries.{EntryFits, entry, long_entry}
use Rattle.rules.proofs.Tables.{TableFits, flat_long, in_row}
use Rattle.entries.specs.Table.{Holds, Table}
use Rattle.entries.proofs.Table.{hold, is_table, and_then}
use Rattle.entries.proofs.Sifting.{keep_last}
use Rattle.entries.proofs.Copies.{read_fits}
use Rattle.places.specs.Layout.{Stands}
use Rattle.places.proofs.Sections.{stands_fits, stands_midway}
use Rattle.places.proofs.Head.{status_of}
use Rattle.handler.proofs.Rows.{flat_snoc}
use Rattle.verify.specs.Asked.{is_asked, used_in, asked_to, asked_in}

-- the bytes of entries
pub rows_long : (es : List Entry) → length (flat entry_bytes es) ≡ 24 * length es
rows_long = flat_long entry_bytes 24 long_entry

-- ---- what is lent

-- of a table: the entries that it has
used_is : (c : ℕ) (es : List Entry) (t : List ℕ) → Holds c es t → used_in t ≡ flat entry_bytes es
unfolding used_in table_bytes
used_is c es t h =
    rw h.count (ap (λ (x : List ℕ). part x 4 (24 * length es)) h.bytes ∙ part_at (le 4 (length es)) (flat entry_bytes es) (zero_bytes (24 * (c - length es))) 4 (24 * length es) (length_le 4 (length es)) (rows_long es))

pub used_lent : (t : List ℕ) (n : ℕ) → n ≡ num t 0 4 → take (4 + 24 * n - 4) (drop 4 t) ≡ used_in t
unfolding used_in part
used_lent t n e = let z : 4 + 24 * n - 4 ≡ 24 * n = omega arith in rw (z, e)

pub used_within : (c : ℕ) (es : List Entry) (t : List ℕ) → Holds c es t → 4 + 24 * num t 0 4 ≤ length t
used_within c es t h = omega (arith, h.count, h.size, h.room)

module _ {sh : Shape} {st : State} {b : List ℕ} (s : Stands sh st b) where
  pub source_fits : TableFits sh.c (source st)
  source_fits = by_test (TableFits sh.c) (eqb st.view.status 3) (λ t. (stands_fits s).draft) (λ f. (stands_fits s).log)

  -- by the status
  pub source_lent : (draft log : List ℕ) → Table sh.c draft → table_at sh.c draft 0 ≡ st.change.draft → Table sh.c log → table_at sh.c log 0 ≡ st.logged.log → (status : ℕ) (r : List ℕ) → status ≡ num b 2 1 → r ≡ used_in (pick (eqb status 3) draft log) → (r ≡ flat entry_bytes (source st)) × (length r ≤ 98304)
  source_lent draft log hd ed hl el status r e q =
      let i : status ≡ st.view.status = e ∙ status_of (stands_midway s) in
      let g : (t : Bool) → used_in (pick t draft log) ≡ flat entry_bytes (pick t st.change.draft st.logged.log)
      = λ t. by_cases t
      (λ y. ap used_in (pick_true t draft log y) ∙ used_is sh.c _ draft hd ∙ ap (flat entry_bytes) ed ∙ sym (ap (flat entry_bytes) (pick_true t st.change.draft st.logged.log y)))
      (λ y. ap used_in (pick_false t draft log y) ∙ used_is sh.c _ log hl ∙ ap (flat entry_bytes) el ∙ sym (ap (flat entry_bytes) (pick_false t st.change.draft st.logged.log y))) in
      let w : r ≡ flat entry_bytes (source st) = rw i at (q ∙ g (eqb status 3)) in
      (w, omega (arith, ap length w ∙ rows_long (source st), source_fits.room, s.fits.small))

-- ---- those that are asked for, one by one

module _ (boundary j : ℕ) (t : List ℕ) where
  abbrev to : ℕ → List Entry
  to i = asked_to boundary j t i

  pub asked_none : to 0 ≡ []
  unfolding asked_to items keep
  asked_none = refl

  asked_next : (i : ℕ) → to (i + 1) ≡ to i ++ pick (is_asked boundary j (entry_at t (24 * i))) (entry_at t (24 * i) ∷ []) []
  unfolding asked_to items
  asked_next i =
      rw add-one
      (ap (λ (a : ℕ). keep (is_asked boundary j) (items (entry_at t) 24 0 i ++ (entry_at t a ∷ []))) (zero-add (24 * i))
      ∙ keep_last (is_asked boundary j) (items (entry_at t) 24 0 i) (entry_at t (24 * i)))

  pub asked_more : (i : ℕ) → is_asked boundary j (entry_at t (24 * i)) ≡ true → to (i + 1) ≡ to i ++ (entry_at t (24 * i) ∷ [])
  asked_more i h = asked_next i ∙ ap (λ (x : List Entry). to i ++ x) (pick_true _ (entry_at t (24 * i) ∷ []) [] h)

  pub asked_same : (i : ℕ) → is_asked boundary j (entry_at t (24 * i)) ≡ false → to (i + 1) ≡ to i
  asked_same i h = asked_next i ∙ ap (λ (x : List Entry). to i ++ x) (pick_false _ (entry_at t (24 * i) ∷ []) [] h) ∙ append-nil (to i)

  asked_grows : (i : ℕ) → length (to i) ≤ length (to (suc i))
  asked_grows i = omega (arith, rw add-one at (ap length (asked_next i) ∙ length-append (to i) (pick (is_asked boundary j (entry_at t (24 * i))) (entry_at t (24 * i) ∷ []) [])))

  pub asked_within : (i n : ℕ) → i ≤ n → length (to i) ≤ length (to n)
  asked_within i zero h = let e : i ≡ 0 = omega arith in rw e (omega arith)
  asked_within i (suc n) h = by_cases (leb i n) (λ y. le_trans (asked_within i n (leb-true i n y)) (asked_grows n)) (λ f. let e : i ≡ suc n = omega (arith, leb-false i n f) in rw e (omega arith))

  pub asked_few : (i : ℕ) → length (to i) ≤ i
  unfolding asked_to
  asked_few i = omega (arith, length_keep (is_asked boundary j) (items (entry_at t) 24 0 i), length_items (entry_at t) 24 0 i)

  -- counted
  pub counted_none : 0 ≡ length (to 0)
  counted_none = sym (ap length asked_none)

  pub counted_more : (i k : ℕ) → is_asked boundary j (entry_at t (24 * i)) ≡ true → k ≡ length (to i) → k + 1 ≡ length (to (i + 1))
  counted_more i k h e = omega (arith, ap length (asked_more i h) ∙ length-append (to i) (entry_at t (24 * i) ∷ []))

  pub counted_same : (i k : ℕ) → is_asked boundary j (entry_at t (24 * i)) ≡ false → k ≡ length (to i) → k ≡ length (to (i + 1))
  counted_same i k h e = e ∙ sym (ap length (asked_same i h))

  pub asked_small : (k : ℕ) → k ≡ length (asked_in boundary j t) → length t ≤ 98304 → k ≤ 4096
  asked_small k e h = omega (arith, asked_few (length t / 24))

  pub asked_fit : Bytes t → All EntryFits (asked_in boundary j t)
  unfolding asked_to
  asked_fit bs = all_keep (is_asked boundary j) EntryFits (items (entry_at t) 24 0 (length t / 24)) (read_fits t 0 (length t / 24) bs (omega arith))

-- ---- written: of the first i entries, those that are asked for stand at `at` and end at `end`

pub record Gathered (boundary j : ℕ) (t out₀ : List ℕ) (at n : ℕ) (out : List ℕ) (end i : ℕ) : Type 0 where
  pub within : i ≤ n
  pub size : length out ≡ length out₀
  pub ends : end ≡ at + 24 * length (asked_to boundary j t i)
  pub bytes : out ≡ splice out₀ at (flat entry_bytes (asked_to boundary j t i))

pub gathered_none : (boundary j : ℕ) (t out : List ℕ) (at n : ℕ) → Gathered boundary j t out at n out at 0
unfolding flat
gathered_none boundary j t out at n =
    record {
      within = omega arith;
      size = refl;
      ends = omega (arith, counted_none boundary j t);
      bytes = sym (ap (λ (es : List Entry). splice out at (flat entry_bytes es)) (asked_none boundary j t) ∙ splice_none out at);
    }

module _ (boundary j : ℕ) (t out₀ : List ℕ) (at n : ℕ) (out : List ℕ) (end i : ℕ) (g : Gathered boundary j t out₀ at n out end i) where
  module _ (l : i < n) where
    pub gathered_skip : is_asked boundary j (entry_at t (24 * i)) ≡ false → Gathered boundary j t out₀ at n out end (i + 1)
    gathered_skip h = record { within = omega arith; size = g.size; ends = rw (asked_same boundary j t i h) g.ends; bytes = rw (asked_same boundary j t i h) g.bytes }

    module _ (r : at + 24 * length (asked_to boundary j t n) ≤ length out₀) (e : Entry) (q : e ≡ entry_at t (24 * i)) (h : is_asked boundary j e ≡ true) where
      asked_this : is_asked boundary j (entry_at t (24 * i)) ≡ true
      asked_this = ap (is_asked boundary j) (sym q) ∙ h

      pub gathered_room : end + 24 ≤ length out
      gathered_room =
          omega (arith, g.ends, g.size, counted_more boundary j t i (length (asked_to boundary j t i)) asked_this refl, asked_within boundary j t (i + 1) n (omega arith))

      pub gathered_next : (out₁ : List ℕ) (end₁ : ℕ) → end₁ ≡ end + 24 → out₁ ≡ splice out end (entry_bytes e) → Gathered boundary j t out₀ at n out₁ end₁ (i + 1)
      gathered_next out₁ end₁ f w =
          let es = asked_to boundary j t i in
          let m : asked_to boundary j t (i + 1) ≡ es ++ (e ∷ []) = asked_more boundary j t i asked_this ∙ ap (λ (x : Entry). es ++ (x ∷ [])) (sym q) in
          record {
            within = omega arith;
            size = ap length w ∙ length_splice out end (entry_bytes e) (omega (arith, gathered_room, long_entry e)) ∙ g.size;
            ends = omega (arith, g.ends, counted_more boundary j t i (length es) asked_this refl);
            bytes =
                splice_next out₀ at (24 * length es) (flat entry_bytes es) (entry_bytes e) out out₁ (omega (arith, g.ends, g.size, gathered_room)) (rows_long es) g.bytes (w ∙ ap (λ (a : ℕ). splice out a (entry_bytes e)) g.ends)
                ∙ ap (splice out₀ at) (sym (ap (flat entry_bytes) m ∙ flat_snoc entry_bytes es e));
          }

-- of the entries whose bytes they are
pub asked_is : (boundary j : ℕ) (t : List ℕ) (es : List Entry) → t ≡ flat entry_bytes es → All EntryFits es → ordered (asked_in boundary j t) ≡ asked boundary j es
unfolding asked_to
asked_is boundary j t es e f =
    let n : length (flat entry_bytes es) / 24 ≡ length es = ap (λ (k : ℕ). k / 24) (rows_long es) ∙ mul-div_cancel_left (length es) (lit< tt) in
    rw e (ap (λ (xs : List Entry). ordered (keep (is_asked boundary j) xs)) (in_row entry es (length (flat entry_bytes es) / 24) (sym n) f))

-- ---- put in order: a table with no free place

full_table : (k : ℕ) (es : List Entry) → length es ≡ k → table_bytes k es ≡ le 4 k ++ flat entry_bytes es
unfolding table_bytes
full_table k es e =
    let z : 24 * (k - k) ≡ 0 = omega arith in
    rw (e, z) (ap (λ (x : List ℕ). le 4 k ++ x) (append-nil (flat entry_bytes es)))

pub splice_again : (b : List ℕ) (at : ℕ) (y x : List ℕ) → at ≤ length b → length y ≡ length x → splice (splice b at y) at x ≡ splice b at x
unfolding splice
splice_again b at y x h e = splice_at (take at b) y (drop (at + length y) b) x at (length-take-le at b h) e ∙ rw e

module _ (es : List Entry) (k : ℕ) (e : k ≡ length es) (s : k ≤ 4096) (f : All EntryFits es) (out out₁ out₂ : List ℕ) (at n : ℕ) (r : at + (4 + 24 * k) ≤ length out) (hn : n ≡ 4 + 24 * k) (w₁ : out₁ ≡ splice out at (le 4 k)) (w₂ : out₂ ≡ splice out₁ (at + 4) (flat entry_bytes es)) where
  abbrev x : List ℕ
  x = le 4 k ++ flat entry_bytes es

  x_long : length x ≡ n
  x_long = length-append (le 4 k) (flat entry_bytes es) ∙ omega (arith, length_le 4 k, rows_long es)

  written : out₂ ≡ splice out at x
  written = splice_next out at 4 (le 4 k) (flat entry_bytes es) out₁ out₂ (omega arith) (length_le 4 k) w₁ w₂

  held : Holds k es (take n (drop at out₂))
  unfolding part
  held =
      let p : take n (drop at out₂) ≡ x = ap (λ (o : List ℕ). take n (drop at o)) written ∙ ap (λ (m : ℕ). take m (drop at (splice out at x))) (sym x_long) ∙ part_splice_same out at x (omega (arith, x_long)) in
      hold k es (take n (drop at out₂)) (p ∙ sym (full_table k es (sym e))) (omega arith) s f

  pub lent : Table k (take n (drop at out₂))
  lent = is_table k es _ held

  pub in_order : (y out₃ : List ℕ) → Holds k (ordered (table_at k (take n (drop at out₂)) 0)) y → out₃ ≡ take at out₂ ++ (y ++ drop n (drop at out₂)) → out₃ ≡ splice out at (le 4 k ++ flat entry_bytes (ordered es))
  in_order y out₃ h w =
      let g = and_then k es _ held ordered y h in
      let z : y ≡ le 4 k ++ flat entry_bytes (ordered es) = g.bytes ∙ full_table k (ordered es) (ordered_length es ∙ sym e) in
      w ∙ splice_home out₂ at n y (g.size ∙ sym hn) ∙ ap (λ (o : List ℕ). splice o at y) written ∙ splice_again out at x y (omega arith) (x_long ∙ hn ∙ sym g.size) ∙ ap (splice out at) z
