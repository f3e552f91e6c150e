-- What the two public statements promise of all inputs. Assumes nothing.
use Prim.Native.Nat.{ℕ}
use mathlib.Core.Path.{◌≡◌, sym, ap, ◌∙◌}
use mathlib.Core.List.{List}
use Rattle.octets.specs.Bytes.{part}
use Rattle.rules.specs.Read.{decoded}
use Rattle.rules.specs.Write.{Written, written}
use Rattle.std.specs.Prelude.{Ok, Err}
use Rattle.rules.specs.Refusals.{Answer}
use Rattle.rules.specs.declared.Message.{Message}
use Rattle.rules.proofs.Answers.{written_answer}
use Rattle.rules.proofs.Case.{writes_read}
use Rattle.wire.specs.Statements.{Reads, Writes}

written_out : (x y : Answer) (o u : List ℕ) → written x o ≡ written y u → o ≡ u
written_out (Ok a) (Ok b) o u e = ap (λ (w : Written). w.out) e
written_out (Ok a) (Err b) o u e = ap (λ (w : Written). w.out) e
written_out (Err a) (Ok b) o u e = ap (λ (w : Written). w.out) e
written_out (Err a) (Err b) o u e = ap (λ (w : Written). w.out) e

module _ (n s : ℕ) where
  -- bytes are read in one way
  pub read_one : (b : List ℕ) (x y : Message) → Reads n s b x → Reads n s b y → x ≡ y
  read_one b x y p q = p ∙ sym q

  module _ (m : Message) (views entries out : List ℕ) where
    -- a message is written in one way: one answer, and one buffer
    pub write_one : (x y : Answer) (o u : List ℕ) → Writes n s m views entries out x o → Writes n s m views entries out y u → (x ≡ y) × (o ≡ u)
    write_one x y o u p q = (written_answer x y o u (p ∙ sym q), written_out x y o u (p ∙ sym q))

    -- what was written is read as what it was written from
    pub read_written : (sent : ℕ) (o : List ℕ) (x : Message) → Writes n s m views entries out (Ok sent) o → Reads n s (part o 0 sent) x → x ≡ m
    read_written sent o x p q =
        q ∙ ap (λ (w : Written). decoded n s (part w.out 0 w.sent)) p ∙ writes_read n s m views entries out (sym (ap (λ (w : Written). w.number) p))
