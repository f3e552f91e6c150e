-- One early entry after the other goes to the log, and all of them leave early and the notes. Assumes nothing.
use Prim.Native.Nat.{ℕ}
use mathlib.Core.Path.{◌≡◌, refl, sym, ap, subst, ◌∙◌}
use mathlib.Core.List.{List, [], ◌∷◌}
use native.Mathlib.Omega.{arith}
use lib.ListN.{length, take, drop}
use Rattle.octets.specs.Bytes.{num, items}
use Rattle.rules.specs.Choice.{keep}
use Rattle.rules.specs.Read.{entry_at}
use Rattle.rules.specs.State.{Note, State, with_waiting}
use Rattle.rules.specs.Image.{state_of}
use Rattle.rules.specs.Early.{notes_without}
use Rattle.rules.specs.declared.Entry.{Entry}
use Rattle.rules.specs.declared.Shape.{Shape}
use Rattle.notes.specs.Notes.{notes_at, Notes}
use Rattle.releases.specs.Releasing.{Releasing, Reaches, logging, early_left, notes_left, Noted, Cleared}

-- it went to the log
pub went : {sh : Shape} (b : List ℕ) {b' : List ℕ} (e d : Entry) → e ≡ d → Reaches sh (logging (state_of sh b) e) b' → Reaches sh (logging (state_of sh b) d) b'
went {sh} b {b'} e d h r = subst (λ (y : Entry). Reaches sh (logging (state_of sh b) y) b') h r

-- ---- all of them leave

-- the notes of those that were copied
pub copies_noted : {sh : Shape} (b : List ℕ) {b' : List ℕ} (n k : ℕ) (u : List ℕ) → items (entry_at u) 24 0 k ≡ drop n (state_of sh b).logged.log
    → Reaches sh (notes_left (state_of sh b) (items (entry_at u) 24 0 k)) b' → Noted sh b n b'
copies_noted {sh} b {b'} n k u e r = subst (λ (gone : List Entry). Reaches sh (notes_left (state_of sh b) gone) b') e r

-- there is no note
pub none_noted : {sh : Shape} {b : List ℕ} (n : ℕ) → Releasing sh b → (t : List ℕ) → Notes sh.c sh.s t × (notes_at sh.c sh.s t ≡ (state_of sh b).waiting.notes) → (k : ℕ) → k ≡ num t 0 4 → k ≡ 0 → Noted sh b n b
unfolding keep
none_noted {sh} {b} n m t (g, e) k q z =
    let st = state_of sh b in
    let y : st.waiting.notes ≡ [] = sym e ∙ nothing (notes_at sh.c sh.s t) (sym g.count ∙ sym q ∙ z) in
    record {
      is = sym (ap (λ (xs : List Note). with_waiting st.waiting.early st.waiting.late xs st) (ap (notes_without (drop n st.logged.log)) y ∙ sym y));
      releasing = m;
    }
  where
    nothing : (xs : List Note) → length xs ≡ 0 → xs ≡ []
    nothing [] h = refl
    nothing (x ∷ xs) h = absurd (omega arith)

-- early is left, then the notes
pub all_left : {sh : Shape} (b : List ℕ) {b₁ b₂ : List ℕ} (n k : ℕ) → drop n (state_of sh b).logged.log ≡ take k (state_of sh b).waiting.early
    → Reaches sh (early_left (state_of sh b) (take k (state_of sh b).waiting.early)) b₁ → Noted sh b₁ n b₂ → Cleared sh b n b₂
all_left {sh} b n k e r s =
    record {
      is = s.is ∙ ap (λ (x : State). notes_left x (drop n x.logged.log)) r.is
          ∙ ap (λ (gone : List Entry). notes_left (early_left (state_of sh b) gone) (drop n (state_of sh b).logged.log)) (sym e);
      releasing = s.releasing;
    }
