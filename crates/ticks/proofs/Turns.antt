-- The loop of releases, a turn at a time. Assumes nothing.
use Prim.Native.Nat.{ℕ, ◌+◌, ◌*◌, ◌≤◌, ◌<◌}
use mathlib.Core.Path.{◌≡◌, refl, sym, ap, subst, ◌∙◌}
use mathlib.Core.List.{List, [], ◌∷◌, ◌++◌, append-nil}
use native.Mathlib.Omega.{arith}
use native.Mathlib.Nat.{mul-add, mul-one}
use lib.ListN.{length, take, drop, length-append}
use lib.Seq.{get_or-append-add, length-take-le}
use Rattle.octets.specs.Bytes.{flat, splice}
use Rattle.octets.proofs.Laws.{length_splice, splice_none, splice_next}
use Rattle.rules.specs.Choice.{below}
use Rattle.rules.specs.Entry.{no_entry, entry_of}
use Rattle.rules.specs.Wire.{wire_bytes}
use Rattle.rules.specs.Read.{length_for}
use Rattle.rules.specs.Digest.{digest}
use Rattle.rules.specs.State.{State}
use Rattle.rules.specs.Image.{state_of}
use Rattle.rules.specs.Step.{sends, send_out, placed_replies}
use Rattle.rules.specs.declared.Entry.{Entry}
use Rattle.rules.specs.declared.Shape.{Shape}
use Rattle.places.proofs.Rows.{within}
use Rattle.early.proofs.Leading.{due_take, due_at, due_within}
use Rattle.releases.specs.Releasing.{Releasing, Reaches, logging, early_left, notes_left, Cleared}
use Rattle.ticks.specs.Released.{Released}
use Rattle.ticks.proofs.Many.{dues, longer, longer_start, longer_log, longer_next, longer_rest, longer_released, released_none, replies_more, replies_length, taken_at}

-- from the state in b, once the first i entries due by a time are at the end of the log: the state, and the replies, which end at r
pub record Appended (sh : Shape) (b out : List ℕ) (time i r : ℕ) (b' out' : List ℕ) : Type 0 where
  pub reached : Reaches sh (longer (state_of sh b) time i) b'
  pub end : r ≡ length_for sh.s 5 1 * i
  pub replies : out' ≡ splice out 0 (flat wire_bytes (placed_replies (state_of sh b) (take i (dues (state_of sh b) time))))
  pub long : length out' ≡ length out

module _ {sh : Shape} {b₀ : List ℕ} (m : Releasing sh b₀) (out₀ : List ℕ) (time : ℕ) where
  abbrev st : State
  st = state_of sh b₀

  abbrev ds : List Entry
  ds = dues st time

  -- none is there yet
  pub turn_start : Appended sh b₀ out₀ time 0 0 b₀ out₀
  unfolding flat sends below
  turn_start =
      record {
        reached = record { is = sym (longer_start st time); releasing = m };
        end = omega arith;
        replies = sym (splice_none out₀ 0);
        long = refl;
      }

  pub sum_start : (sum : ℕ) → sum ≡ digest st.logged.log → sum ≡ digest (st.logged.log ++ take 0 ds)
  sum_start sum e = e ∙ ap digest (sym (append-nil st.logged.log))

  module _ (n k : ℕ) (hn : n ≡ length st.logged.log) (hk : k ≤ length ds) (hc : n + k ≤ sh.c) (ho : length_for sh.s 5 1 * k ≤ length out₀)
      (i at sum : ℕ) {b out : List ℕ} (l : i < k) (r : Appended sh b₀ out₀ time i at b out) (hs : sum ≡ digest (st.logged.log ++ take i ds)) where
    less : i < length ds
    less = omega arith

    long_log : (j : ℕ) → j ≤ length ds → length (st.logged.log ++ take j ds) ≡ n + j
    long_log j h = length-append st.logged.log (take j ds) ∙ ap (λ (x : ℕ). length st.logged.log + x) (length-take-le j ds h) ∙ ap (λ (x : ℕ). x + j) (sym hn)

    -- what the next release asks for
    pub turn_asks : Releasing sh b × (n + i ≡ length (state_of sh b).logged.log) × (n + i < sh.c) × (i < length (state_of sh b).waiting.early) × (sum ≡ digest (state_of sh b).logged.log)
    turn_asks =
        let e : state_of sh b ≡ longer st time i = r.reached.is in
        let a : length (state_of sh b).logged.log ≡ n + i = ap (λ (x : State). length x.logged.log) e ∙ long_log i (omega (arith, less)) in
        let d : length (state_of sh b).waiting.early ≡ length st.waiting.early = ap (λ (x : State). length x.waiting.early) e in
        (r.reached.releasing, sym a, omega arith, omega (arith, less, due_within time st.waiting.early), hs ∙ ap (λ (x : State). digest x.logged.log) (sym e))

    module _ (sum₁ : ℕ) {b₁ : List ℕ}
        (w : Reaches sh (logging (state_of sh b) (entry_of (state_of sh b).waiting.early i)) b₁)
        (hs₁ : sum₁ ≡ digest ((state_of sh b).logged.log ++ (entry_of (state_of sh b).waiting.early i ∷ []))) where
      -- it is the next of those due
      next_due : entry_of (state_of sh b).waiting.early i ≡ entry_of ds i
      next_due = ap (λ (x : State). entry_of x.waiting.early i) r.reached.is ∙ sym (due_at time st.waiting.early i less)

      -- the state once it is there
      next_is : state_of sh b₁ ≡ longer st time (i + 1)
      next_is = w.is ∙ ap (logging (state_of sh b)) next_due ∙ ap (λ (x : State). logging x (entry_of ds i)) r.reached.is ∙ longer_next st time i less

      next_log : (state_of sh b₁).logged.log ≡ st.logged.log ++ take (i + 1) ds
      next_log = ap (λ (x : State). x.logged.log) next_is

      next_sum : sum₁ ≡ digest (st.logged.log ++ take (i + 1) ds)
      next_sum =
          hs₁ ∙ ap (λ (d : Entry). digest ((state_of sh b).logged.log ++ (d ∷ []))) next_due ∙ ap (λ (x : State). digest (x.logged.log ++ (entry_of ds i ∷ []))) r.reached.is
          ∙ ap digest (longer_log st time i less)

      next_entry : entry_of (state_of sh b₁).logged.log (n + i) ≡ entry_of ds i
      next_entry = ap (λ (es : List Entry). entry_of es (n + i)) next_log ∙ rw hn (get_or-append-add st.logged.log (take (i + 1) ds) i no_entry) ∙ taken_at ds i

      -- what its reply asks for
      pub turn_tells : Releasing sh b₁ × (n + i < length (state_of sh b₁).logged.log) × (at + length_for sh.s 5 1 ≤ length out)
      turn_tells =
          let a : length (state_of sh b₁).logged.log ≡ n + (i + 1) = ap length next_log ∙ long_log (i + 1) (omega (arith, less)) in
          (w.releasing, omega arith, omega (arith, within (length_for sh.s 5 1) i k l, r.end, r.long))

      -- one more is there
      pub turn_next : (at₁ : ℕ) (out₁ : List ℕ)
          → (at₁ ≡ at + length_for sh.s 5 1) × (out₁ ≡ splice out at (wire_bytes (send_out (state_of sh b₁) 5 (1 ∷ (n + i + 1) ∷ sum₁ ∷ []) (entry_of (state_of sh b₁).logged.log (n + i)))))
          → Appended sh b₀ out₀ time (i + 1) at₁ b₁ out₁ × (sum₁ ≡ digest (st.logged.log ++ take (i + 1) ds))
      turn_next at₁ out₁ (p, q) =
          let L = length_for sh.s 5 1 in
          let x = flat wire_bytes (placed_replies st (take i ds)) in
          let y = wire_bytes (send_out st 5 (1 ∷ (length st.logged.log + i + 1) ∷ digest (st.logged.log ++ take (i + 1) ds) ∷ []) (entry_of ds i)) in
          let s : wire_bytes (send_out (state_of sh b₁) 5 (1 ∷ (n + i + 1) ∷ sum₁ ∷ []) (entry_of (state_of sh b₁).logged.log (n + i))) ≡ y = rw (next_entry, next_sum, next_is, hn) in
          let lx : length x ≡ L * i = replies_length st ds sh.s m.midway.holds.g_vec_places i (omega (arith, less)) in
          let ln : length (flat wire_bytes (placed_replies st (take (i + 1) ds))) ≡ L * (i + 1) = replies_length st ds sh.s m.midway.holds.g_vec_places (i + 1) (omega (arith, less)) in
          let g : L * i + L ≤ L * k = within L i k l in
          let more : L * (i + 1) ≡ L * i + L = mul-add L i 1 ∙ ap (λ (z : ℕ). L * i + z) (mul-one L) in
          let o : out₁ ≡ splice out (0 + L * i) y = q ∙ ap (splice out at) s ∙ ap (λ (z : ℕ). splice out z y) (omega (arith, r.end)) in
          let h : out₁ ≡ splice out₀ 0 (flat wire_bytes (placed_replies st (take (i + 1) ds))) = splice_next out₀ 0 (L * i) x y out out₁ (omega arith) lx r.replies o ∙ ap (splice out₀ 0) (sym (replies_more st ds i less)) in (
            record {
              reached = record { is = next_is; releasing = w.releasing };
              end = omega (arith, r.end);
              replies = h;
              long = ap length h ∙ length_splice out₀ 0 (flat wire_bytes (placed_replies st (take (i + 1) ds))) (omega arith);
            },
            next_sum,
          )

  -- all are there: what is asked for them to leave, and all are released
  module _ (n k i at : ℕ) {b out : List ℕ} (hn : n ≡ length st.logged.log) (hk : k ≤ length ds) (l : i ≤ k) (h : k ≤ i) (r : Appended sh b₀ out₀ time i at b out) where
    pub leave_asks : Releasing sh b × (n + k ≡ length (state_of sh b).logged.log) × (k ≤ length (state_of sh b).waiting.early) × (drop n (state_of sh b).logged.log ≡ take k (state_of sh b).waiting.early)
    leave_asks =
        let e : i ≡ k = omega arith in
        let q : state_of sh b ≡ longer st time i = r.reached.is in
        let a : length (state_of sh b).logged.log ≡ length st.logged.log + i = ap (λ (x : State). length x.logged.log) q ∙ length-append st.logged.log (take i ds) ∙ ap (λ (x : ℕ). length st.logged.log + x) (length-take-le i ds (omega arith)) in
        let d : length (state_of sh b).waiting.early ≡ length st.waiting.early = ap (λ (x : State). length x.waiting.early) q in (
          r.reached.releasing,
          omega arith,
          omega (arith, due_within time st.waiting.early),
          ap (λ (x : State). drop n x.logged.log) q ∙ longer_rest st time n i hn ∙ rw e (due_take time st.waiting.early k hk) ∙ ap (λ (x : State). take k x.waiting.early) (sym q),
        )

    pub turn_end : (b₁ : List ℕ) → Cleared sh b n b₁ → Released sh b₀ out₀ time k at b₁ out
    turn_end b₁ w =
        let e : i ≡ k = omega arith in
        subst (λ (j : ℕ). Released sh b₀ out₀ time j at b₁ out) e
        (record {
          reached =
              record {
                is = w.is ∙ ap (λ (x : State). notes_left (early_left x (drop n x.logged.log)) (drop n x.logged.log)) r.reached.is ∙ longer_released st time n i hn;
                releasing = w.releasing;
              };
          end = r.end;
          replies = r.replies;
          long = r.long;
        })

  -- or there is none to release
  pub none_end : (k : ℕ) → k ≡ 0 → Released sh b₀ out₀ time k 0 b₀ out₀
  none_end k e =
      subst (λ (j : ℕ). Released sh b₀ out₀ time j 0 b₀ out₀) (sym e)
      (record {
        reached = record { is = sym (released_none st time); releasing = m };
        end = turn_start.end;
        replies = turn_start.replies;
        long = refl;
      })
