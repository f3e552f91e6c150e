-- The own group and replica of a good state are in range, and its role. Assumes nothing.
use Prim.Native.Nat.{ℕ, ◌+◌, ◌*◌, ◌%◌, ◌<◌}
use mathlib.Core.Path.{◌≡◌, ◌∙◌}
use mathlib.Core.Bool.{Bool, true}
use mathlib.Core.List.{List, ◌++◌}
use native.Mathlib.Omega.{arith}
use lib.Dec.{eqb}
use Rattle.octets.specs.Bytes.{num}
use Rattle.rules.specs.Log.{distinct}
use Rattle.rules.specs.State.{State, leads}
use Rattle.rules.specs.declared.Shape.{Shape}
use Rattle.rules.proofs.Choice.{pairs_front, pairs_back}
use Rattle.rules.proofs.Logs.{Apart, distinct_pairs, pairs_distinct}
use Rattle.rules.proofs.Conjuncts.{good_is}
use Rattle.places.specs.Layout.{start_of, Stands}
use Rattle.places.proofs.Sections.{stands_midway, stands_own, stands_laid, stands_fits}
use Rattle.places.proofs.Head.{group_of, replica_of}
use Rattle.places.proofs.Kept.{view_at_lem}
use Rattle.rules.specs.Image.{at_gvec}

module _ {sh : Shape} {st : State} {b : List ℕ} (s : Stands sh st b) where
  pub group_below : st.site.group < sh.s
  group_below = (stands_own s).group

  pub replica_below : st.site.replica < sh.n
  replica_below = (stands_own s).replica

  -- no transaction stands twice over log, early and late, nor in early alone
  pub stands_once : distinct (st.logged.log ++ (st.waiting.early ++ st.waiting.late)) ≡ true
  stands_once = (good_is sh st s.good).buffers.once

  pub early_once : distinct st.waiting.early ≡ true
  early_once = pairs_distinct st.waiting.early (pairs_front Apart st.waiting.early st.waiting.late (pairs_back Apart st.logged.log (st.waiting.early ++ st.waiting.late) (distinct_pairs (st.logged.log ++ (st.waiting.early ++ st.waiting.late)) stands_once)))

  pub own_below : (own : ℕ) → own ≡ num b 0 1 → own < sh.s
  own_below own e = omega (arith, group_of (stands_midway s), group_below)

  pub leads_is : (own view replica : ℕ) (r : Bool) → own ≡ num b 0 1 → view ≡ num b (start_of sh at_gvec + 4 * own) 4 → replica ≡ num b 1 1 → r ≡ eqb replica (view % sh.n) → r ≡ leads sh st
  leads_is own view replica r e v q h =
      let g : own ≡ st.site.group = e ∙ group_of (stands_midway s) in
      h ∙ rw (q ∙ replica_of (stands_midway s), v ∙ view_at_lem (stands_laid s) (stands_fits s).g_vec_places (stands_fits s).g_vec own (own_below own e), g)
