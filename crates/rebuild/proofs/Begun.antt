-- The parts of the rebuild over one count: what is counted with is what came. Assumes nothing.
use mathlib.Core.Path.{◌≡◌, sym, subst}
use Prim.Native.Nat.{ℕ}
use mathlib.Core.List.{List}
use Rattle.rules.specs.Rebuild.{with_normal, prefix}
use Rattle.entries.specs.Table.{Holds}
use Rattle.rebuild.specs.Tables.{votes_of, Counted}
use Rattle.rebuild.specs.Rebuild.{Based, Starts}
use Rattle.rebuild.specs.declared.Basis.{Basis}
use Rattle.rebuild.specs.declared.Count.{Count}
use Rattle.rebuild.specs.declared.Votes.{Votes}

module _ (v : Votes) (k : Count) (c : Basis) (e : c.count ≡ k) where
  pub starts : (slots : List ℕ) → Counted v k slots → Based v.shape.n (votes_of v) c → Starts v c slots
  starts slots i f = record { counted = subst (λ (x : Count). Counted v x slots) (sym e) i; based = f }

  pub prefixed : (t : List ℕ) → Holds v.shape.c (prefix (with_normal k.top (votes_of v))) t → Holds v.shape.c (prefix (with_normal c.count.top (votes_of v))) t
  prefixed t h = subst (λ (x : Count). Holds v.shape.c (prefix (with_normal x.top (votes_of v))) t) (sym e) h
