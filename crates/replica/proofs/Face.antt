-- What a host is given, from the answer beside it. Assumes nothing.
use Prim.Native.Nat.{ℕ, ◌+◌, ◌≤◌, ◌<◌}
use mathlib.Core.Path.{◌≡◌, refl, sym, ap, ◌∙◌}
use mathlib.Core.Bool.{Bool, true, false}
use mathlib.Core.List.{List}
use native.Mathlib.Omega.{arith}
use lib.ListN.{length}
use lib.Dec.{eqb}
use borrow.Author.Tests.{ltb-true, eq-eqb, ne_eqb}
use Rattle.rules.specs.Choice.{pick}
use Rattle.rules.specs.Group.{sizes_fit}
use Rattle.rules.specs.Kind.{known, numbers_in}
use Rattle.rules.specs.Wire.{case_with}
use Rattle.rules.specs.Image.{good_bytes}
use Rattle.rules.specs.Read.{numbers_at, first_wrong, and_then}
use Rattle.rules.specs.Write.{Written, written, writes}
use Rattle.rules.specs.Bytes.{Left, left}
use Rattle.rules.specs.declared.Shape.{Shape}
use Rattle.rules.specs.declared.Message.{Message}
use Rattle.rules.specs.Read.{Verdict}
use Rattle.rules.specs.Read.{all_right, wrong_field}
use Rattle.std.specs.Prelude.{Ok, Err}
use Rattle.rules.specs.Refusals.{Answer, number_of}
use Rattle.rules.proofs.Tests.{sizes}
use Rattle.rules.proofs.EachKind.{kind_small}
use Rattle.rules.proofs.Verdicts.{rows_right}
use Rattle.fresh.proofs.Promises.{left_state, left_out}
use Rattle.replica.specs.Face.{coded, code_of, Gives, Puts, Given, head_fits, header_of, unfit_in, writes_from}

code_left : (a : Answer) (b out : List ℕ) → code_of a ≡ coded (left a b out).number ((left a b out).sent + (left a b out).offset)
code_left (Ok sent) b out = ap (coded 0) (omega arith)
code_left (Err r) b out = ap (coded (number_of r)) (omega arith)

pub gives : (a : Answer) (b out : List ℕ) (l : Left) (r : ℕ) → left a b out ≡ l → r ≡ code_of a → Gives l r b out
gives a b out l r e c =
    record {
      number = c ∙ code_left a b out ∙ ap (λ (x : Left). coded x.number (x.sent + x.offset)) e;
      state = sym (left_state a b out) ∙ ap (λ (x : Left). x.state) e;
      out = sym (left_out a b out) ∙ ap (λ (x : Left). x.out) e;
    }

code_written : (a : Answer) (out : List ℕ) → code_of a ≡ coded (written a out).number ((written a out).sent + (written a out).offset)
code_written (Ok sent) out = ap (coded 0) (omega arith)
code_written (Err r) out = ap (coded (number_of r)) (omega arith)

written_out : (a : Answer) (out : List ℕ) → (written a out).out ≡ out
written_out (Ok sent) out = refl
written_out (Err r) out = refl

-- the answer where a field at this offset does not fit
abbrev pub Unfit : ℕ → ℕ → ℕ → ℕ → Type 0
Unfit n s at r = r ≡ coded (pick (sizes_fit n s) 2 1) (pick (sizes_fit n s) at 0)

module _ (n s : ℕ) (g : Given) (numbers views entries out : List ℕ) (h : Verdict) (e : h ≡ first_wrong (head_fits g)) where
  abbrev leaves : Written
  leaves = writes_from n s g numbers views entries out

  unfit_puts : (r at u : ℕ) → unfit_in s g numbers ≡ wrong_field at u → Unfit n s at r → Puts leaves r out
  unfolding writes_from pick
  unfit_puts r at u f q = record { number = rw f (q ∙ ap (coded (pick (sizes_fit n s) 2 1)) (omega arith)); out = rw f refl }

  -- a field that is too wide
  pub too_wide : (r at u : ℕ) → h ≡ wrong_field at u → Unfit n s at r → Puts leaves r out
  unfolding unfit_in and_then
  too_wide r at u f q = unfit_puts r at u (rw (sym e ∙ f)) q

  module _ (fine : h ≡ all_right) (count : ℕ) (c : count ≡ numbers_in g.kind) where
    -- numbers that are not the kind's
    pub miscounted : (r at : ℕ) → (length numbers ≡ count → ⊥) → (s ≤ 8 → at ≡ numbers_at s g.kind) → Unfit n s at r → Puts leaves r out
    unfolding unfit_in and_then first_wrong pick
    miscounted r at d near q =
        let wrong : eqb (length numbers) (numbers_in g.kind) ≡ false = ne_eqb (length numbers) (numbers_in g.kind) (λ z. d (z ∙ sym c)) in
        unfit_puts r (numbers_at s g.kind) (numbers_at s g.kind + 4) (rw (sym e ∙ fine, wrong) refl) (q ∙ go (sizes_fit n s) refl)
      where
        go : (t : Bool) → sizes_fit n s ≡ t → coded (pick t 2 1) (pick t at 0) ≡ coded (pick t 2 1) (pick t (numbers_at s g.kind) 0)
        go true z = ap (coded 2) (near (sizes n s z).groups)
        go false z = refl

    pub puts : (m : Message) (a : Answer) (next : List ℕ) (r : ℕ) → length numbers ≡ count → m ≡ case_with (header_of g) numbers → written a next ≡ writes n s m views entries out → r ≡ code_of a → Puts leaves r next
    unfolding writes_from unfit_in and_then first_wrong pick
    puts m a next r l d w k =
        let right : eqb (length numbers) (numbers_in g.kind) ≡ true = eq-eqb (length numbers) (numbers_in g.kind) (l ∙ c) in
        let z : written a next ≡ leaves = w ∙ rw (sym e ∙ fine, right, d) refl in
        record {
          number = k ∙ code_written a next ∙ ap (λ (y : Written). coded y.number (y.sent + y.offset)) z;
          out = sym (written_out a next) ∙ ap (λ (y : Written). y.out) z;
        }

-- whether bytes are a good state, as a number
abbrev pub goodness : Shape → List ℕ → ℕ
goodness sh b = pick (good_bytes sh b) 0 1

pub good_zero : (sh : Shape) (b : List ℕ) (x : Bool) (r : ℕ) → r ≡ 0 → x ≡ good_bytes sh b → x ≡ true → r ≡ goodness sh b
unfolding pick
good_zero sh b x r z e f = z ∙ rw (sym e ∙ f) refl

pub good_one : (sh : Shape) (b : List ℕ) (x : Bool) (r : ℕ) → r ≡ 1 → x ≡ good_bytes sh b → x ≡ false → r ≡ goodness sh b
unfolding pick
good_one sh b x r z e f = z ∙ rw (sym e ∙ f) refl

-- each field of a header that fits its bytes
pub record Narrow (g : Given) : Type 0 where
  pub kind : g.kind < 256
  pub to_group : g.to_group < 256
  pub to_mask : g.to_mask < 256
  pub from_group : g.from_group < 256
  pub from_replica : g.from_replica < 256
  pub view : g.view < 4294967296

pub narrow_fits : (g : Given) (h : Verdict) → h ≡ first_wrong (head_fits g) → h ≡ all_right → Narrow g
unfolding head_fits
narrow_fits g h e f =
    let r = rows_right (head_fits g) (sym e ∙ f) in
    record {
      kind = kind_small g.kind (r 0);
      to_group = ltb-true _ _ (r 1);
      to_mask = ltb-true _ _ (r 2);
      from_group = ltb-true _ _ (r 3);
      from_replica = ltb-true _ _ (r 4);
      view = ltb-true _ _ (r 5);
    }

-- a number that is no kind's
pub none_known : (k : ℕ) → 255 < k → false ≡ known k
none_known k l = go (known k) refl
  where
    go : (t : Bool) → known k ≡ t → false ≡ t
    go false e = refl
    go true e = absurd (let z = kind_small k e in omega arith)
