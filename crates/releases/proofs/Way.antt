-- A state while entries are released: from a good state, and from one to the next. Assumes nothing.
use Prim.Native.Nat.{ℕ, ◌-◌, ◌≤◌}
use mathlib.Core.Path.{◌≡◌, sym, ap, subst, ◌∙◌}
use mathlib.Core.Bool.{true}
use mathlib.Core.List.{List, [], ◌∷◌, ◌++◌}
use native.Mathlib.Omega.{arith}
use lib.ListN.{length, take, drop}
use lib.Seq.{take_all}
use Rattle.rules.specs.Choice.{leading}
use Rattle.rules.specs.Entry.{without}
use Rattle.rules.specs.Log.{distinct}
use Rattle.rules.specs.State.{Note, State, agreed}
use Rattle.rules.specs.Image.{table_at, state_of, at_early, at_late, at_log, at_notes, at_votes}
use Rattle.rules.specs.Early.{due_of, notes_without}
use Rattle.rules.specs.declared.Entry.{Entry}
use Rattle.rules.specs.declared.Shape.{Shape}
use Rattle.entries.specs.Table.{Holds, Table}
use Rattle.entries.proofs.Table.{decoded, and_then}
use Rattle.notes.specs.Notes.{notes_at, NotesHold, Notes}
use Rattle.notes.proofs.Notes as noted
use Rattle.early.proofs.Kept.{keep_distinct, without_first}
use Rattle.early.proofs.Leading.{due_take, due_within}
use Rattle.places.specs.Layout.{start_of, Midway, Own, Stands}
use Rattle.places.proofs.Sections.{stands_midway, midway_is}
use Rattle.places.proofs.Midway.{log_here, early_here, notes_here, log_comes, early_comes, notes_come}
use Rattle.handler.proofs.Own.{group_below, replica_below, early_once}
use Rattle.releases.specs.Releasing.{Releasing, Reaches, logging, early_left, notes_left}
use Rattle.releases.specs.Waiting.{run_in}

-- ---- a good state is such a one

pub on_way : {sh : Shape} {b : List ℕ} → Stands sh (state_of sh b) b → Releasing sh b
on_way s = record { midway = stands_midway s; own = record { group = group_below s; replica = replica_below s }; early = early_once s }

-- ---- a state that is reached

pub arrive : {sh : Shape} {st : State} {b : List ℕ} → Midway sh st b → Own sh st → distinct st.waiting.early ≡ true → Reaches sh st b
arrive {sh} {st} {b} m o d =
    let e : state_of sh b ≡ st = midway_is m in
    record {
      is = e;
      releasing =
          record {
            midway = subst (λ (x : State). Midway sh x b) (sym e) m;
            own = subst (Own sh) (sym e) o;
            early = ap (λ (x : State). distinct x.waiting.early) e ∙ d;
          };
    }

-- ---- those due and the notes, as the search for a leader's run takes them and as the state has them

module _ (sh : Shape) (b : List ℕ) (time : ℕ) (es ns : List ℕ) (t : Table sh.c es × (table_at sh.c es 0 ≡ (state_of sh b).waiting.early)) (n : Notes sh.c sh.s ns × (notes_at sh.c sh.s ns ≡ (state_of sh b).waiting.notes))
    (due : ℕ) (e : due ≡ length (due_of time (state_of sh b).waiting.early)) where
  pub run_open : due ≤ length (table_at sh.c es 0)
  run_open = omega (arith, ap length t.1, due_within time (state_of sh b).waiting.early)

  pub run_read : (r : ℕ) → r ≡ run_in sh.c sh.s es ns due → r ≡ length (leading (agreed sh (state_of sh b).waiting.notes) (due_of time (state_of sh b).waiting.early))
  run_read r q =
      q ∙ ap (λ (ds : List Entry). length (leading (agreed sh (notes_at sh.c sh.s ns)) (take due ds))) t.1
      ∙ ap (λ (xs : List Note). length (leading (agreed sh xs) (take due (state_of sh b).waiting.early))) n.1
      ∙ ap (λ (ds : List Entry). length (leading (agreed sh (state_of sh b).waiting.notes) ds))
      (sym (due_take time (state_of sh b).waiting.early due (omega arith)) ∙ take_all due (due_of time (state_of sh b).waiting.early) (omega arith))

-- ---- a section lent, and what comes home

module _ {sh : Shape} {b : List ℕ} (m : Releasing sh b) (at end : ℕ) where
  -- one entry more in the log
  pub log_taken : {b' x : List ℕ} (e : Entry) → at ≡ start_of sh at_log → end ≡ start_of sh at_early → Holds sh.c (table_at sh.c (take (end - at) (drop at b)) 0 ++ (e ∷ [])) x → b' ≡ take at b ++ (x ++ drop (end - at) (drop at b)) → Reaches sh (logging (state_of sh b) e) b'
  log_taken {x = x} e p q h w =
      let j = and_then sh.c _ _ (log_here m.midway at end p q) (λ es. es ++ (e ∷ [])) x h in
      arrive (log_comes m.midway at end _ j p q w) (record { group = m.own.group; replica = m.own.replica }) m.early

  -- the first entries leave early
  pub early_left_lem : {b' x : List ℕ} (k : ℕ) → at ≡ start_of sh at_early → end ≡ start_of sh at_late → Holds sh.c (drop k (table_at sh.c (take (end - at) (drop at b)) 0)) x → b' ≡ take at b ++ (x ++ drop (end - at) (drop at b)) → Reaches sh (early_left (state_of sh b) (take k (state_of sh b).waiting.early)) b'
  early_left_lem {x = x} k p q h w =
      let es = (state_of sh b).waiting.early in
      let j = and_then sh.c es _ (early_here m.midway at end p q) (drop k) x h in
      let g : Holds sh.c (without (take k es) es) x = subst (λ (ds : List Entry). Holds sh.c ds x) (sym (without_first k es m.early)) j in
      arrive (early_comes m.midway at end _ g p q w) (record { group = m.own.group; replica = m.own.replica }) (keep_distinct _ es m.early)

  pub leave_within : (k : ℕ) → at ≡ start_of sh at_early → end ≡ start_of sh at_late → k ≤ length (state_of sh b).waiting.early → k ≤ length (table_at sh.c (take (end - at) (drop at b)) 0)
  leave_within k p q l = rw (decoded sh.c _ _ (early_here m.midway at end p q)) l

  -- notes leave
  pub notes_left_lem : {b' x : List ℕ} (gone : List Entry) → at ≡ start_of sh at_notes → end ≡ start_of sh at_votes → NotesHold sh.c sh.s (notes_without gone (notes_at sh.c sh.s (take (end - at) (drop at b)))) x → b' ≡ take at b ++ (x ++ drop (end - at) (drop at b)) → Reaches sh (notes_left (state_of sh b) gone) b'
  notes_left_lem {x = x} gone p q h w =
      let j = noted.and_then sh.c sh.s _ _ (notes_here m.midway at end p q) (notes_without gone) x h in
      arrive (notes_come m.midway at end _ j p q w) (record { group = m.own.group; replica = m.own.replica }) m.early
