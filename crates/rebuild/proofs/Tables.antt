-- The slots of the votes' logs: what a search in them is asked for, and those of one log more. Assumes nothing.
use Prim.Native.Nat.{ℕ, suc, ◌+◌, ◌*◌, ◌-◌, ◌≤◌, ◌<◌}
use mathlib.Core.Path.{◌≡◌, refl, sym, ap, ◌∙◌}
use Rattle.std.specs.Prelude as rust
use Rattle.std.specs.Prelude.{Some, None}
use mathlib.Core.Option.{Option, none}
use mathlib.Core.List.{List, ◌++◌}
use native.Mathlib.Decide.{dec_lt}
use native.Mathlib.Nat.{mul-suc, mul-le-mul_left}
use native.Mathlib.Omega.{arith}
use lib.ListN.{length, get_or, set, take, drop, replicate, length-set, get_or-replicate, get_or-eq_default}
use lib.Seq.{get_or-set_same, get_or-set_other}
use Rattle.octets.specs.Bytes.{num, part, splice, items}
use Rattle.octets.proofs.Laws.{length_part, length_splice, splice_home, part_splice_same, part_splice_after}
use Rattle.rules.specs.Read.{entry_at}
use Rattle.rules.specs.State.{Vote}
use Rattle.rules.specs.declared.Entry.{Entry}
use Rattle.entries.specs.Rows.{Found}
use Rattle.entries.proofs.Rows.{found_empty}
use Rattle.ballots.specs.Ballots.{vote_of, Lists}
use Rattle.rebuild.specs.Tables.{Indexed, Looks}
use Rattle.rebuild.specs.declared.Index.{Index}

-- slots of one place end where those of the next begin
apart : (size i j : ℕ) → i < j → size * i + size ≤ size * j
apart size i j h = let k : size * suc i ≤ size * j = mul-le-mul_left size h in omega (arith, mul-suc size i)

-- the entries of a log, read from its bytes
pub log_read : (c : ℕ) (es : List Entry) (t : List ℕ) → Lists c es t → (n : ℕ) → n ≡ num t 0 4 → items (entry_at t) 24 4 n ≡ es
log_read c es t k n e = ap (items (entry_at t) 24 4) (e ∙ k.count) ∙ k.rows

-- two numbers are equal or not
alike : (i j : ℕ) → Dec (i < j) → Dec (j < i) → Dec (i ≡ j)
alike i j (yes l) k = no (λ e. omega arith)
alike i j (no l) (yes k) = no (λ e. omega arith)
alike i j (no l) (no k) = yes (omega (arith, l, k))

-- ---- a search

pub looks_in : (c : ℕ) (vs : List (Option Vote)) (to : ℕ) (x : Index) (slots : List ℕ) (r : ℕ) → Indexed vs to x slots → to ≤ 7 → (t : List ℕ) → Lists c (vote_of (get_or vs r none)).log t → c ≤ 4096 → r < 7 → (n : ℕ) → n ≡ num t 0 4 → Looks t n x slots r
looks_in c vs to x slots r h m t k s l n e =
    record {
      long = omega (arith, k.count, k.size);
      few = omega (arith, k.count, k.room);
      replica = l;
      small = h.small;
      seven = h.flags;
      room = λ p q. let w = h.within r p q in (omega (arith, h.few), omega (arith, h.room, apart x.size p x.used w));
      found = λ p q. rw (log_read c _ t k n e) (h.found r p q);
    }

module _ (t : List ℕ) (n : ℕ) (x : Index) (slots : List ℕ) (r : ℕ) (h : Looks t n x slots r) where
  -- what is asked of no slots
  pub none_asked : (4 + 24 * n ≤ length t) × (n ≤ 4096) × Found (items (entry_at t) 24 4 n) (take (0 - 0) (drop 0 slots))
  none_asked = (h.long, h.few, found_empty _)

  -- and of the log's own
  pub slots_asked : (p at end : ℕ) → get_or x.place r None ≡ Some p → at ≡ x.size * p → end ≡ at + x.size
      → (4 + 24 * n ≤ length t) × (n ≤ 4096) × Found (items (entry_at t) 24 4 n) (take (end - at) (drop at slots))
  unfolding part
  slots_asked p at end q f e =
      let z : end - at ≡ x.size = omega arith in
      (h.long, h.few, rw (z, f) (h.found p q))

-- ---- those of one log more

pub index_start : (vs : List (Option Vote)) (size : ℕ) (slots : List ℕ) → size ≤ 8258 → Indexed vs 0 (record { size = size; used = 0; place = replicate 7 None }) slots
index_start vs size slots s =
    record {
      flags = refl;
      small = s;
      room = omega arith;
      few = omega arith;
      within = λ r p q. absurd (unset r p (dec_lt r 7) q);
      found = λ r p q. absurd (unset r p (dec_lt r 7) q);
    }
  where
    clash : (p : ℕ) → None ≡ Some p → ⊥
    clash p q = cc

    unset : (r p : ℕ) → Dec (r < 7) → get_or (replicate 7 None) r None ≡ Some p → ⊥
    unset r p (yes l) q = clash p (sym (get_or-replicate 7 r None None l) ∙ q)
    unset r p (no l) q = let m : 7 ≤ r = omega (arith, l) in clash p (sym (get_or-eq_default (replicate 7 None) None m) ∙ q)

-- so many have them, of more replicas
pub index_among : (vs : List (Option Vote)) (r n : ℕ) (x : Index) (slots : List ℕ) → r ≤ n → Indexed vs r x slots → Indexed vs n x slots
index_among vs r n x slots l h = record { flags = h.flags; small = h.small; room = h.room; few = omega (arith, h.few); within = h.within; found = h.found }

pub index_same : (vs : List (Option Vote)) (r : ℕ) (x : Index) (slots : List ℕ) → Indexed vs r x slots → Indexed vs (r + 1) x slots
index_same vs r x slots h = index_among vs r (r + 1) x slots (omega arith) h

module _ (vs : List (Option Vote)) (x : Index) (slots : List ℕ) (r : ℕ) (h : Indexed vs r x slots) (l : r < 7) (u : List ℕ) (w : length u ≡ x.size) (m : x.size * x.used + x.size ≤ length slots) (f : Found (vote_of (get_or vs r none)).log u) where
  abbrev next : List (rust.Option ℕ)
  next = set x.place r (Some x.used)

  abbrev after : List ℕ
  after = splice slots (x.size * x.used) u

  own_place : get_or next r None ≡ Some x.used
  own_place = get_or-set_same x.place r (Some x.used) None (omega (arith, h.flags))

  other_place : (j : ℕ) → (j ≡ r → ⊥) → get_or next j None ≡ get_or x.place j None
  other_place j n = get_or-set_other x.place r j (Some x.used) None n

  same_place : (j p : ℕ) → j ≡ r → get_or next j None ≡ Some p → p ≡ x.used
  same_place j p e q = let k : get_or next r None ≡ Some p = rw e at q in let o = own_place in cc

  own_slots : part after (x.size * x.used) x.size ≡ u
  own_slots = ap (part after (x.size * x.used)) (sym w) ∙ part_splice_same slots (x.size * x.used) u (omega arith)

  within_now : (j p : ℕ) → Dec (j ≡ r) → get_or next j None ≡ Some p → p < x.used + 1
  within_now j p (yes e) q = omega (arith, same_place j p e q)
  within_now j p (no n) q = omega (arith, h.within j p (sym (other_place j n) ∙ q))

  found_now : (j p : ℕ) → Dec (j ≡ r) → get_or next j None ≡ Some p → Found (vote_of (get_or vs j none)).log (part after (x.size * p) x.size)
  found_now j p (yes e) q = rw (e, same_place j p e q, own_slots) f
  found_now j p (no n) q =
      let o : get_or x.place j None ≡ Some p = sym (other_place j n) ∙ q in
      let a = apart x.size p x.used (h.within j p o) in
      rw (part_splice_after slots (x.size * x.used) u (x.size * p) x.size (omega arith) (omega arith)) (h.found j p o)

  index_more : Indexed vs (r + 1) (record { size = x.size; used = x.used + 1; place = next }) after
  index_more =
      let g : length after ≡ length slots = length_splice slots (x.size * x.used) u (omega arith) in
      record {
        flags = length-set x.place r (Some x.used) ∙ h.flags;
        small = h.small;
        room = omega (arith, mul-suc x.size x.used);
        few = omega (arith, h.few);
        within = λ j p q. within_now j p (alike j r (dec_lt j r) (dec_lt r j)) q;
        found = λ j p q. found_now j p (alike j r (dec_lt j r) (dec_lt r j)) q;
      }

-- in a part of the slots that was lent
pub index_found : (c : ℕ) (vs : List (Option Vote)) (x : Index) (slots : List ℕ) (r : ℕ) → Indexed vs r x slots → r < 7 → (t : List ℕ) → Lists c (vote_of (get_or vs r none)).log t → (n : ℕ) → n ≡ num t 0 4 → (u : List ℕ) → Found (items (entry_at t) 24 4 n) u
    → (at end : ℕ) → at ≡ x.size * x.used → end ≡ at + x.size → end ≤ length slots → length u ≡ length (take (end - at) (drop at slots))
    → Indexed vs (r + 1) (record { size = x.size; used = x.used + 1; place = set x.place r (Some x.used) }) (take at slots ++ (u ++ drop (end - at) (drop at slots)))
unfolding part
index_found c vs x slots r h l t k n e u f at end p q g w =
    let z : end - at ≡ x.size = omega arith in
    let m : length (take (end - at) (drop at slots)) ≡ x.size = ap (λ (i : ℕ). length (take i (drop at slots))) z ∙ length_part slots at x.size (omega arith) in
    let s : take at slots ++ (u ++ drop (end - at) (drop at slots)) ≡ splice slots (x.size * x.used) u = splice_home slots at (end - at) u (w ∙ m ∙ sym z) ∙ ap (λ (i : ℕ). splice slots i u) p in
    rw s (index_more vs x slots r h l u (w ∙ m) (omega arith) (rw (log_read c _ t k n e) at f))
