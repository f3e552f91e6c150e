-- In a list in which no transaction stands twice at most one entry is lifted: the one at the transaction's row, which leaves it and is put in its place. Assumes nothing.
use Prim.Native.Nat.{ℕ, zero, suc, ◌+◌, ◌≤◌, ◌<◌}
use mathlib.Core.Path.{◌≡◌, refl, ap, ap₂, ◌∙◌}
use mathlib.Core.Bool.{Bool, true, false, ◌&&◌, not}
use mathlib.Core.List.{List, [], ◌∷◌, ◌++◌, map}
use native.Mathlib.Omega.{arith}
use native.Mathlib.Decide.{dec_lt}
use native.Mathlib.Numerals.{add-one}
use lib.ListN.{length, take, drop}
use Rattle.octets.proofs.Codecs.{All}
use Rattle.rules.specs.Choice.{pick, keep}
use Rattle.rules.specs.Entry.{no_entry, entry_of, stamped, same_txn, among, before, place, place_all}
use Rattle.rules.specs.Log.{distinct}
use Rattle.rules.specs.State.{Note, agreed, greatest}
use Rattle.rules.specs.Early.{lifted}
use Rattle.rules.specs.declared.Entry.{Entry}
use Rattle.rules.specs.declared.Shape.{Shape}
use Rattle.rules.proofs.Choice.{Pairs, all_map, all_at, any_none}
use Rattle.rules.proofs.Order.{txn_turns, txn_as, before_strict, before_asym, before_lower}
use Rattle.rules.proofs.Logs.{Apart, distinct_pairs}

-- an entry at a timestamp that is not below its own does not come before itself
pub not_before : (d : Entry) (t : ℕ) → d.stamp ≤ t → before (stamped t d) d ≡ false
not_before d t l = go (dec_lt d.stamp t)
  where
    go : Dec (d.stamp < t) → before (stamped t d) d ≡ false
    go (yes m) = before_asym d (stamped t d) (before_lower d (stamped t d) m)
    go (no m) = let z : t ≡ d.stamp = omega arith in rw z (before_strict.never d)

module _ (sh : Shape) (xs : List Note) (e : Entry) where
  abbrev lifts : Entry → Bool
  lifts d = same_txn e d && agreed sh xs d

  other : (d : Entry) → same_txn e d ≡ false → lifts d ≡ false
  other d h = rw h

  -- those behind the one at the row
  behind : (d : Entry) (ds : List Entry) → same_txn e d ≡ true → All (Apart d) ds → All (λ x. lifts x ≡ false) ds
  behind d ds h = all_map (λ x a. other x (txn_as e d x h ∙ a)) ds

  -- and one before it
  ahead : (d : Entry) (ds : List Entry) (i : ℕ) → i < length ds → same_txn e (entry_of ds i) ≡ true → All (Apart d) ds → lifts d ≡ false
  ahead d ds i l h a = other d (txn_as e (entry_of ds i) d h ∙ txn_turns (entry_of ds i) d ∙ all_at (Apart d) no_entry ds a i l)

  parted_none : (ds : List Entry) → All (λ d. lifts d ≡ false) ds → (keep lifts ds ≡ []) × (keep (λ d. not (lifts d)) ds ≡ ds)
  unfolding keep pick
  parted_none [] a = (refl, refl)
  parted_none (d ∷ ds) a = let r = parted_none ds a.1 in (rw a.0 r.0, rw a.0 (ap (λ (l : List Entry). d ∷ l) r.1))

  none_lifted : (ds : List Entry) → All (λ d. lifts d ≡ false) ds → lifted sh xs e ds ≡ ds
  unfolding lifted place_all
  none_lifted ds a = let r = parted_none ds a in ap₂ (λ (l m : List Entry). place_all l (map (λ d. stamped (greatest sh xs d) d) m)) r.1 r.0

  none_here : (ds : List Entry) → Pairs Apart ds → (i : ℕ) → i < length ds → same_txn e (entry_of ds i) ≡ true → agreed sh xs (entry_of ds i) ≡ false → All (λ d. lifts d ≡ false) ds
  none_here [] p i l h a = absurd (omega arith)
  none_here (d ∷ ds) p zero l h a = (rw (h, a), behind d ds h p.0)
  none_here (d ∷ ds) p (suc i) l h a = let k : i < length ds = omega arith in (ahead d ds i k h p.0, none_here ds p.1 i k h a)

  parted_one : (ds : List Entry) → Pairs Apart ds → (i : ℕ) → i < length ds → same_txn e (entry_of ds i) ≡ true → agreed sh xs (entry_of ds i) ≡ true
      → (keep lifts ds ≡ entry_of ds i ∷ []) × (keep (λ d. not (lifts d)) ds ≡ take i ds ++ drop (suc i) ds)
  unfolding keep pick
  parted_one [] p i l h a = absurd (omega arith)
  parted_one (d ∷ ds) p zero l h a =
      let r = parted_none ds (behind d ds h p.0) in
      (rw (h, a) (ap (λ (m : List Entry). d ∷ m) r.0), rw (h, a) r.1)
  parted_one (d ∷ ds) p (suc i) l h a =
      let k : i < length ds = omega arith in
      let n = ahead d ds i k h p.0 in
      let r = parted_one ds p.1 i k h a in
      (rw n r.0, rw n (ap (λ (m : List Entry). d ∷ m) r.1))

  pub lifted_absent : (ds : List Entry) → among ds e ≡ false → lifted sh xs e ds ≡ ds
  lifted_absent ds h = none_lifted ds (all_map other ds (any_none (same_txn e) ds h))

  module _ (ds : List Entry) (o : distinct ds ≡ true) (i : ℕ) (l : i < length ds) (h : same_txn e (entry_of ds i) ≡ true) where
    pub lifted_waits : agreed sh xs (entry_of ds i) ≡ false → lifted sh xs e ds ≡ ds
    lifted_waits a = none_lifted ds (none_here ds (distinct_pairs ds o) i l h a)

    pub lifted_here : agreed sh xs (entry_of ds i) ≡ true → lifted sh xs e ds ≡ place (stamped (greatest sh xs (entry_of ds i)) (entry_of ds i)) (take i ds ++ drop (i + 1) ds)
    unfolding lifted place_all
    lifted_here a =
        let r = parted_one ds (distinct_pairs ds o) i l h a in
        rw add-one (ap₂ (λ (m n : List Entry). place_all m (map (λ d. stamped (greatest sh xs d) d) n)) r.1 r.0)
