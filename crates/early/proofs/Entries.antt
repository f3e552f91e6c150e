-- Which entries are chosen, and what the passes over a table leave of them. Assumes nothing.
use Prim.Native.Nat.{ℕ, ◌+◌, ◌<◌}
use mathlib.Core.Path.{◌≡◌, refl, sym, ap, ◌∙◌}
use mathlib.Core.Bool.{Bool, true, false, ◌&&◌, not}
use mathlib.Core.List.{List}
use lib.ListN.{length}
use borrow.Author.Tests.{not-true, not-false}
use Rattle.rules.specs.Choice.{any, keep}
use Rattle.rules.specs.Entry.{no_entry, before, among, without}
use Rattle.rules.specs.Image.{table_at}
use Rattle.rules.specs.declared.Entry.{Entry}
use Rattle.entries.specs.First.{is_of}
use Rattle.entries.specs.Table.{Holds, Table}
use Rattle.entries.proofs.Table.{decoded, is_table}
use Rattle.early.specs.Listed.{placed, chosen}
use Rattle.early.specs.declared.Which.{Which}
use Rattle.early.specs.declared.Which.TheVariants.{Any, After, NotAfter}
use Rattle.early.specs.Moved.{moved, moved_to}
use Rattle.early.proofs.Sifting.{keep_like, Sifted, sift_turn}

module _ (which : Which) (e : Entry) where
  pub placed_any : which ≡ Any → true ≡ placed which e
  unfolding placed
  placed_any h = sym (ap (λ (w : Which). placed w e) h)

  module _ (last : Entry) (r : Bool) (q : r ≡ before last e) where
    pub placed_after : which ≡ After last → r ≡ placed which e
    unfolding placed
    placed_after h = q ∙ sym (ap (λ (w : Which). placed w e) h)

    pub placed_not_after : which ≡ NotAfter last → not r ≡ placed which e
    unfolding placed
    placed_not_after h = ap not q ∙ sym (ap (λ (w : Which). placed w e) h)

module _ (gone : List Entry) (which : Which) (e : Entry) (p : Bool) (q : p ≡ placed which e) where
  pub not_placed : not p ≡ true → false ≡ chosen gone which e
  unfolding chosen
  not_placed h = sym (ap (λ (b : Bool). b && not (among gone e)) (sym q ∙ not-true p h))

  pub when_placed : not p ≡ false → (b : Bool) → b ≡ any (is_of e.request e.coordinator) gone → not b ≡ chosen gone which e
  unfolding chosen
  when_placed h b f = ap not f ∙ sym (ap (λ (a : Bool). a && not (among gone e)) (sym q ∙ not-false p h))

-- any: all that are of no listed transaction
pub without_is : (gone es : List Entry) → keep (chosen gone Any) es ≡ without gone es
unfolding chosen placed
without_is gone es = keep_like (chosen gone Any) (λ e. not (among gone e)) (λ e. refl) es

-- one turn over a table
pub table_turn : (p : Entry → Bool) (es : List Entry) (i kept c : ℕ) (ws : List Entry) (u : List ℕ) (r : ℕ) → Sifted p es i kept ws → i < length es
    → Holds c (moved p no_entry ws i kept) u → r ≡ moved_to p no_entry ws i kept → Table c u × Sifted p es (i + 1) r (table_at c u 0)
table_turn p es i kept c ws u r s l h q = (is_table c _ u h, sift_turn p no_entry es i kept ws s l r _ q (decoded c _ u h))
