-- Which votes hold an entry, by timestamp and transaction. Assumes nothing.
use Prim.Native.Nat.{ℕ, zero, suc, ◌+◌, ◌*◌, ◌-◌, ◌≤◌, ◌<◌}
use mathlib.Core.Path.{◌≡◌, refl, sym, ap, ◌∙◌}
use mathlib.Core.Bool.{Bool, true, false, ◌&&◌, not}
use mathlib.Core.Option.{Option, none, some}
use mathlib.Core.List.{List, [], ◌∷◌}
use native.Mathlib.Omega.{arith}
use lib.ListN.{length, get_or, take, length-append}
use lib.Seq.{length-take-le, get_or-take, ext_get_or}
use lib.Dec.{eqb, ltb}
use borrow.Author.Tests.{eqb-true, eqb-false, eq-eqb, ne_eqb, le-ltb}
use Rattle.octets.specs.Bytes.{num, items}
use Rattle.octets.proofs.Codecs.{length_items, get_or_items}
use Rattle.rules.specs.Choice.{pick, any, keep, is_some}
use Rattle.rules.specs.Entry.{no_entry, entry_of, same_txn, same_key, among}
use Rattle.rules.specs.Log.{good_log}
use Rattle.rules.specs.Read.{entry_at}
use Rattle.rules.specs.State.{Vote}
use Rattle.rules.specs.Rebuild.{with_normal, holders}
use Rattle.rules.specs.declared.Entry.{Entry}
use Rattle.rules.proofs.Choice.{by_cases, fails, clash, any_at, at_any, keep_append, pick_true, pick_false, one_picked}
use Rattle.rules.proofs.Order.{txn_as, key_txn, key_stamp, key_made}
use Rattle.rules.proofs.Logs.{good_parts, one_place}
use Rattle.entries.specs.First.{find_row}
use Rattle.entries.proofs.First.{among_row, found_row}
use Rattle.ballots.specs.Ballots.{vote_of, counts_at, Lists}
use Rattle.rebuild.specs.Rebuild.{lower, holds_at}
use Rattle.ballots.proofs.Counting.{lower_next}
use Rattle.entries.proofs.Table.{row_read}

module _ (c : ℕ) (es : List Entry) (t : List ℕ) (k : Lists c es t) where
  -- the first m of them
  pub listed_take : (m : ℕ) → m ≤ length es → items (entry_at t) 24 4 m ≡ take m es
  listed_take m h =
      ext_get_or no_entry (items (entry_at t) 24 4 m) (take m es) (length_items (entry_at t) 24 4 m ∙ sym (length-take-le m es h))
      (λ i l.
      let b : i < m = omega (arith, length_items (entry_at t) 24 4 m) in
      get_or_items (entry_at t) 24 4 m i no_entry b ∙ row_read es t k.rows i (omega arith) ∙ sym (get_or-take m es i no_entry b))

  -- no entry has the transaction
  pub key_missing : (e : Entry) (n i : ℕ) → n ≡ num t 0 4 → i ≡ find_row (λ j. entry_at t (4 + 24 * j)) e.request e.coordinator n → n ≤ i → false ≡ any (same_key e) es
  key_missing e n i m f h =
      let l : length es ≡ n = omega (arith, k.count) in
      let a : ltb i n ≡ among es e = among_row (λ j. entry_at t (4 + 24 * j)) es e n i l (λ j q. row_read es t k.rows j (omega arith)) f in
      sym
      (fails (any (same_key e) es)
      (λ y.
      let o = any_at (same_key e) no_entry es y in
      clash (among es e) (at_any (same_txn e) no_entry es o.0 o.1 (key_txn e (entry_of es o.0) o.2)) (sym a ∙ le-ltb i n h)))

  -- the entry that is found decides
  pub key_found : (s g : ℕ) (e x : Entry) (n i : ℕ) → good_log s g es ≡ true → n ≡ num t 0 4 → i ≡ find_row (λ j. entry_at t (4 + 24 * j)) e.request e.coordinator n → i < n → x ≡ entry_at t (4 + 24 * i) → eqb e.stamp x.stamp ≡ any (same_key e) es
  key_found s g e x n i y m f h q =
      let l : i < length es = omega (arith, k.count) in
      let z : x ≡ entry_of es i = q ∙ row_read es t k.rows i l in
      let w : same_txn e (entry_of es i) ≡ true = ap (same_txn e) (sym (row_read es t k.rows i l)) ∙ found_row (λ j. entry_at t (4 + 24 * j)) e n i f h in
      rw z
      (by_cases (eqb e.stamp (entry_of es i).stamp)
      (λ p. p ∙ sym (at_any (same_key e) no_entry es i l (key_made e (entry_of es i) (eqb-true e.stamp (entry_of es i).stamp p) w)))
      (λ p.
      p
      ∙ sym
      (fails (any (same_key e) es)
      (λ u.
      let o = any_at (same_key e) no_entry es u in
      let j : i ≡ o.0 = one_place es (good_parts s g es y).once i o.0 l o.1 (sym (txn_as e (entry_of es i) (entry_of es o.0) w) ∙ key_txn e (entry_of es o.0) o.2) in
      eqb-false e.stamp (entry_of es i).stamp p (key_stamp e (entry_of es o.0) o.2 ∙ ap (λ (a : ℕ). (entry_of es a).stamp) (sym j))))))

-- ---- counted

module _ (top : ℕ) (vs : List (Option Vote)) (e : Entry) where
  pub holders_start : 0 ≡ holders (lower top vs 0) e
  unfolding with_normal keep
  holders_start = refl

  one_holder : (a : Bool) (v : Vote) → length (keep (λ u. any (same_key e) u.log) (pick a (v ∷ []) [])) ≡ pick (a && any (same_key e) v.log) 1 0
  unfolding keep pick
  one_holder false v = refl
  one_holder true v = one_picked (any (same_key e) v.log) v

  holders_next : (r : ℕ) → r < length vs → holders (lower top vs (r + 1)) e ≡ holders (lower top vs r) e + pick (holds_at top e (get_or vs r none)) 1 0
  unfolding holds_at
  holders_next r h =
      let p : Vote → Bool = λ u. any (same_key e) u.log in
      ap (λ (ws : List Vote). length (keep p ws)) (lower_next top vs r h)
      ∙ ap length (keep_append p (lower top vs r) _)
      ∙ length-append (keep p (lower top vs r)) _
      ∙ ap (λ (m : ℕ). holders (lower top vs r) e + m) (one_holder (counts_at top (get_or vs r none)) (vote_of (get_or vs r none)))

  module _ (r base sum u n : ℕ) (l : length vs ≡ n) (h : r < n) (w : base + sum ≡ holders (lower top vs r) e) (b : Bool) (q : b ≡ holds_at top e (get_or vs r none)) where
    pub holders_more : b ≡ true → u ≡ sum + 1 → base + u ≡ holders (lower top vs (r + 1)) e
    holders_more y z = let a = holders_next r (omega arith) in let d = pick_true {A = ℕ} (holds_at top e (get_or vs r none)) 1 0 (sym q ∙ y) in omega arith

    pub holders_same : b ≡ false → u ≡ sum → base + u ≡ holders (lower top vs (r + 1)) e
    holders_same y z = let a = holders_next r (omega arith) in let d = pick_false {A = ℕ} (holds_at top e (get_or vs r none)) 1 0 (sym q ∙ y) in omega arith

  pub holders_end : (r end sum : ℕ) → r ≤ end → end ≤ r → sum ≡ holders (lower top vs r) e → sum ≡ holders (lower top vs end) e
  holders_end r end sum a b w = let z : r ≡ end = omega arith in w ∙ ap (λ (i : ℕ). holders (lower top vs i) e) z

  -- more votes have no fewer holders
  holders_rise : (r m : ℕ) → r + m ≤ length vs → holders (lower top vs r) e ≤ holders (lower top vs (r + m)) e
  holders_rise r zero h = let z : r + 0 ≡ r = omega arith in rw z (omega arith)
  holders_rise r (suc m) h =
      let z : r + suc m ≡ r + m + 1 = omega arith in
      rw z (omega (arith, holders_rise r m (omega arith), holders_next (r + m) (omega arith)))

  -- no vote passed holds it, and this one does
  pub held_here : (r end n : ℕ) → length vs ≡ n → r < end → end ≤ n → 0 ≡ holders (lower top vs r) e → (b : Bool) → b ≡ holds_at top e (get_or vs r none) → b ≡ true → true ≡ not (eqb (holders (lower top vs end) e) 0)
  held_here r end n l h k w b q y =
      let m = holders_more r 0 0 1 n l (omega arith) w b q y refl in
      let a = holders_rise (r + 1) (end - (r + 1)) (omega arith) in
      let z : r + 1 + (end - (r + 1)) ≡ end = omega arith in
      let s : holders (lower top vs (r + 1)) e ≤ holders (lower top vs end) e = rw z at a in
      sym (ap not (ne_eqb (holders (lower top vs end) e) 0 (λ f. omega arith)))

  pub held_nowhere : (r end : ℕ) → r ≤ end → end ≤ r → 0 ≡ holders (lower top vs r) e → false ≡ not (eqb (holders (lower top vs end) e) 0)
  held_nowhere r end a b w = sym (ap not (eq-eqb (holders (lower top vs end) e) 0 (sym (holders_end r end 0 a b w))))

pub not_held : (top : ℕ) (e : Entry) (x : Option Vote) (b : Bool) → b ≡ counts_at top x → b ≡ false → false ≡ holds_at top e x
unfolding holds_at
not_held top e x b q h = rw (sym q ∙ h)

pub so_held : (top : ℕ) (e : Entry) (x : Option Vote) (b t : Bool) → b ≡ counts_at top x → b ≡ true → t ≡ any (same_key e) (vote_of x).log → t ≡ holds_at top e x
unfolding holds_at
so_held top e x b t q h w = rw (sym q ∙ h) w

-- a vote that counts is there
pub counts_some : (top : ℕ) (x : Option Vote) (b : Bool) → b ≡ counts_at top x → b ≡ true → is_some x ≡ true
unfolding counts_at
counts_some top none b q h = clash b h q
counts_some top (some v) b q h = refl
