-- The log of a vote as it stands in the state or in the message. Assumes nothing.
use Prim.Native.Nat.{ℕ, zero, suc, ◌+◌, ◌*◌, ◌-◌, ◌≤◌, ◌<◌, min}
use mathlib.Core.Path.{◌≡◌, refl, sym, ap, ◌∙◌}
use mathlib.Core.Bool.{Bool, true, false}
use mathlib.Core.Option.{none, some}
use mathlib.Core.List.{List}
use native.Mathlib.Omega.{arith}
use native.Mathlib.Nat.{add_assoc, add-zero}
use lib.ListN.{length, get_or, take, drop, length-drop}
use lib.Seq.{take_all, drop-drop}
use lib.Dec.{eqb}
use Rattle.octets.specs.Bytes.{unle, part, num, items}
use Rattle.octets.proofs.Codecs.{length_items}
use Rattle.rules.specs.Choice.{pick, is_some}
use Rattle.rules.specs.Read.{entry_at}
use Rattle.rules.specs.Image.{table_length, vote_length, table_at, state_of, at_log}
use Rattle.rules.specs.Step.{own_vote}
use Rattle.rules.specs.declared.Entry.{Entry}
use Rattle.rules.specs.declared.Shape.{Shape}
use Rattle.entries.specs.Table.{Holds}
use Rattle.entries.proofs.Table.{decoded}
use Rattle.places.specs.Layout.{start_of, PlaceAt}
use Rattle.places.proofs.Sections.{stands_fits, stands_laid, stands_midway}
use Rattle.places.proofs.Lent.{log_lent, vote_lent}
use Rattle.ballots.specs.Ballots.{sent_log, votes_in, vote_of, Given, Lists}
use Rattle.ballots.specs.declared.Cast.{Cast}
use Rattle.ballots.proofs.Votes.{is_some_lem, at_sender, at_own, at_kept}

-- a table lists what it holds
pub lists_table : {c : ℕ} {es : List Entry} {t : List ℕ} → Holds c es t → Lists c es t
unfolding table_at
lists_table {c} {es} {t} h =
    let m : min (num t 0 4) c ≡ length es = omega (arith, h.count, h.room) in
    record {
      count = h.count;
      room = h.room;
      size = omega (arith, h.size, h.room);
      rows = ap (items (entry_at t) 24 4) (sym m) ∙ decoded c es t h;
    }

-- ---- the log in the message

num_drop : (b : List ℕ) (at x k : ℕ) → num (drop at b) x k ≡ num b (at + x) k
unfolding num part
num_drop b at x k = ap (λ (l : List ℕ). unle (take k l)) (drop-drop x at b)

entry_drop : (b : List ℕ) (at x : ℕ) → entry_at (drop at b) x ≡ entry_at b (at + x)
unfolding entry_at
entry_drop b at x = simp (num_drop, add_assoc)

items_drop : (b : List ℕ) (at n : ℕ) → items (entry_at (drop at b)) 24 4 n ≡ items (entry_at b) 24 (at + 4) n
unfolding items
items_drop b at zero = refl
items_drop b at (suc n) =
    let e : entry_at (drop at b) (4 + 24 * n) ≡ entry_at b (at + 4 + 24 * n) = entry_drop b at (4 + 24 * n) ∙ ap (entry_at b) (sym (add_assoc at 4 (24 * n))) in
    rw (items_drop b at n, e)

pub lists_sent : (c : ℕ) (msg : List ℕ) (at end : ℕ) → at + 4 + 24 * num msg at 4 ≤ length msg → num msg at 4 ≤ c → end ≡ length msg → Lists c (sent_log msg at) (take (end - at) (drop at msg))
lists_sent c msg at end h r e =
    let w : length (drop at msg) ≤ end - at = omega (arith, length-drop at msg) in
    let l : length (sent_log msg at) ≡ num msg at 4 = length_items (entry_at msg) 24 (at + 4) (num msg at 4) in
    let z : num (drop at msg) 0 4 ≡ num msg at 4 = num_drop msg at 0 4 ∙ ap (λ (i : ℕ). num msg i 4) (add-zero at) in
    rw (take_all (end - at) (drop at msg) w)
    (record {
      count = z ∙ sym l;
      room = omega arith;
      size = omega (arith, length-drop at msg);
      rows = ap (items (entry_at (drop at msg)) 24 4) l ∙ items_drop msg at (num msg at 4);
    })

-- ---- each vote's

module _ (sh : Shape) (b msg : List ℕ) (k : Cast) (g : Given sh b msg k) (r : ℕ) (h : r < sh.n) where
  pub log_sent : (end : ℕ) → r ≡ k.sender → end ≡ length msg → Lists sh.c (vote_of (get_or (votes_in sh b msg k) r none)).log (take (end - k.at) (drop k.at msg))
  unfolding vote_of
  log_sent end e q = rw (at_sender sh b msg k g.sent r e) (lists_sent sh.c msg k.at end g.long g.room q)

  module _ (s : is_some (get_or (votes_in sh b msg k) r none) ≡ true) (d : r ≡ k.sender → ⊥) (a e : ℕ) where
    pub log_own : k.entering ≡ true → a ≡ start_of sh at_log → e ≡ a + table_length sh.c → Lists sh.c (vote_of (get_or (votes_in sh b msg k) r none)).log (take (e - a) (drop a b))
    unfolding pick vote_of
    log_own y p q =
        let st = g.sent.stands in
        let v : get_or (votes_in sh b msg k) r none ≡ some (own_vote (state_of sh b)) = at_own sh b msg k g.sent r h d y ∙ go (eqb r (state_of sh b).site.replica) (rw (at_own sh b msg k g.sent r h d y) at s) in
        rw v (lists_table (log_lent (stands_laid st) a (e - a) st.fits (stands_fits st).log p (omega arith)))
      where
        go : (t : Bool) → is_some (pick t (some (own_vote (state_of sh b))) none) ≡ true → pick t (some (own_vote (state_of sh b))) none ≡ some (own_vote (state_of sh b))
        go true w = refl
        go false w = absurd (let z : ◌≡◌ {A = ℕ} 0 1 = cc in omega arith)

    pub log_kept : k.entering ≡ false → (p : ℕ) → PlaceAt sh 7 (vote_length sh.c) r p → a ≡ p + 13 → e ≡ a + table_length sh.c → Lists sh.c (vote_of (get_or (votes_in sh b msg k) r none)).log (take (e - a) (drop a b))
    unfolding vote_of
    log_kept y p f i q =
        let o : get_or (votes_in sh b msg k) r none ≡ get_or (state_of sh b).change.votes r none = at_kept sh b msg k g.sent r d y in
        let v = is_some_lem (get_or (state_of sh b).change.votes r none) (rw o at s) in
        rw (o ∙ v.1) (lists_table (vote_lent (stands_midway g.sent.stands) r v.0 a (e - a) h v.1 (omega (arith, f.at)) (omega arith)))
