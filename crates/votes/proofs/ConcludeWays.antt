-- The ways through the end of a vote that makes F+1. Assumes nothing.
use Prim.Native.Nat.{ℕ, ◌^◌, ◌≤◌, ◌<◌}
use mathlib.Core.Path.{◌≡◌, refl, sym, ap, ◌∙◌}
use mathlib.Core.Option.{Option}
use mathlib.Core.List.{List, [], ◌∷◌}
use lib.ListN.{length}
use lib.Dec.{eqb, leb}
use borrow.Author.Tests.{le-leb, lt-leb, eq-eqb, ne_eqb}
use Rattle.octets.proofs.Laws.{Bytes}
use Rattle.rules.specs.State.{Vote, State}
use Rattle.rules.specs.Image.{table_at, state_of}
use Rattle.rules.specs.Rebuild.{rebuilt, boundary_of}
use Rattle.rules.specs.Step.{Outcome, refused, done, send_followers, starts, verifies}
use Rattle.rules.specs.Bytes.{Left, leaves, closes}
use Rattle.rules.specs.declared.Entry.{Entry}
use Rattle.rules.specs.declared.Shape.{Shape}
use Rattle.rules.proofs.Choice.{by_test, pick_true, pick_false}
use Rattle.entries.specs.Table.{Holds, Table}
use Rattle.entries.proofs.Table.{decoded, is_table}
use Rattle.handler.proofs.Closes.{closes_refused}
use Rattle.views.specs.Views.{views_of}
use Rattle.changes.specs.Changes.{led_by}
use Rattle.ballots.specs.Ballots.{votes_in}
use Rattle.rebuild.specs.Rebuild.{Gives}
use Rattle.ballots.specs.declared.Cast.{Cast}
use Rattle.std.specs.Prelude as rust
use Rattle.std.specs.Prelude.{Some, None, Err, ok_or}
use Rattle.rules.specs.declared.refusals.Refusal.{Refusal}
use Rattle.rules.specs.declared.refusals.Refusal.TheVariants.{Full}
use Rattle.votes.specs.Votes.{Brought, came_to, asks_all, concludes}
use Rattle.votes.proofs.Came.{comes}

-- ---- the rule, by the length of the rebuilt log and the number of groups

module _ (sh : Shape) (st : State) (votes : List (Option Vote)) where
  abbrev log : List Entry
  log = rebuilt sh.n votes

  too_long : sh.c < length log → concludes sh st votes ≡ refused 8
  unfolding starts verifies
  too_long h =
      let q = lt-leb (length log) sh.c h in
      by_test (λ (o : Outcome). o ≡ refused 8) (eqb sh.s 1) (λ e. pick_false (leb (length log) sh.c) _ _ q) (λ e. pick_false (leb (length log) sh.c) _ _ q)

  one : length log ≤ sh.c → sh.s ≡ 1 → concludes sh st votes ≡ led_by sh st st.view.g_view st.view.g_vec log
  unfolding starts
  one h e = pick_true (eqb sh.s 1) _ _ (eq-eqb sh.s 1 e) ∙ pick_true (leb (length log) sh.c) _ _ (le-leb (length log) sh.c h)

  more : length log ≤ sh.c → (sh.s ≡ 1 → ⊥) → concludes sh st votes ≡ asks_all sh st votes log (boundary_of votes)
  unfolding verifies
  more h e = pick_false (eqb sh.s 1) _ _ (ne_eqb sh.s 1 e) ∙ pick_true (leb (length log) sh.c) _ _ (le-leb (length log) sh.c h)

-- ---- the ways

-- where there is no boundary, the refusal is that the log is too long
pub none_gives : (r : rust.Option ℕ) (f : Refusal) → Err f ≡ ok_or r Full → (r ≡ None) × (f ≡ Full)
none_gives None f e = (refl, cc)
none_gives (Some x) f e = cc

module _ (sh : Shape) (b msg : List ℕ) (view : ℕ) (k : Cast) (g : Brought sh b msg view k) (bs : Bytes msg) (v : view < 256 ^ 4) (out t : List ℕ) where
  abbrev here : State
  here = came_to sh b msg view k.entering

  abbrev votes : List (Option Vote)
  votes = votes_in sh b msg k

  abbrev outcome : Left
  outcome = closes sh b out (concludes sh here votes)

  pub conclude_long : Gives sh.c sh.n votes t None → leaves 8 b out ≡ outcome
  unfolding Gives
  conclude_long w = sym (ap (closes sh b out) (too_long sh here votes w) ∙ closes_refused sh b out 8)

  module _ (boundary : ℕ) (w : Gives sh.c sh.n votes t (Some boundary)) where
    given : Holds sh.c (rebuilt sh.n votes) t × (boundary ≡ boundary_of votes)
    unfolding Gives
    given = w

    pub conclude_table : Table sh.c t
    conclude_table = is_table sh.c (rebuilt sh.n votes) t given.0

    log_is : table_at sh.c t 0 ≡ rebuilt sh.n votes
    log_is = decoded sh.c (rebuilt sh.n votes) t given.0

    pub conclude_one : (left : Left) → sh.s ≡ 1 → left ≡ closes sh b out (led_by sh (state_of sh b) view (views_of sh msg) (table_at sh.c t 0)) → left ≡ outcome
    conclude_one left s q =
        q ∙ ap (λ (es : List Entry). closes sh b out (led_by sh (state_of sh b) view (views_of sh msg) es)) log_is
        ∙ ap (λ (x : State). closes sh b out (done x (send_followers sh x 9 (rebuilt sh.n votes) ∷ []))) (sym ((comes sh b msg view k g bs v).begins (rebuilt sh.n votes)))
        ∙ ap (closes sh b out) (sym (one sh here votes given.0.room s))

    pub conclude_more : (left : Left) → (sh.s ≡ 1 → ⊥) → left ≡ closes sh b out (asks_all sh here votes (table_at sh.c t 0) boundary) → left ≡ outcome
    conclude_more left s q =
        q ∙ ap (λ (es : List Entry). closes sh b out (asks_all sh here votes es boundary)) log_is
        ∙ ap (λ (x : ℕ). closes sh b out (asks_all sh here votes (rebuilt sh.n votes) x)) given.1
        ∙ ap (closes sh b out) (sym (more sh here votes given.0.room s))
