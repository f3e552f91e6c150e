use Rattle.std.proofs.Common.{◌≡◌, ℕ, ◌+◌, ◌*◌, ◌%◌, ◌^◌, sym, ap, ◌∙◌, div-add-mod', arith, length-take}
use Rattle.rules.specs.Digest.{digest_from}
use Rattle.digest.specs.Halves.{whole_of}
use Rattle.digest.proofs.Laws.{byte_in_front, digest_more, digest_done}
use Rattle.digest.proofs.digest_on.Goals as goal

pub loop-byte-init : goal.loop-byte-init
loop-byte-init c = record { left = ap (λ (n : ℕ). digest_from n c.args.bytes.now) (sym (div-add-mod' c.args.h 4294967296)); low_fits = omega arith }

pub loop-byte-preserved : goal.loop-byte-preserved
loop-byte-preserved c = let l = c.loop-byte in let b = c.type_inv.bytes l.byte-index in record {
  left = l.invariant.left ∙ digest_more l.sum.high l.sum.low _ _ l.byte-index _ c.times_prime-sum.ensures (grind (arith, byte_in_front)) (omega (arith, length-take {A = ℕ})) (omega arith) l.invariant.low_fits;
  low_fits = omega arith;
}

pub returns : goal.returns
returns c = let l = c.loop-byte in let e : l.sum.high * 2 ^ 32 % 2 ^ 64 + l.sum.low ≡ whole_of l.sum = omega arith in e ∙ sym (l.invariant.left ∙ digest_done (whole_of l.sum) _ l.byte-index (omega (arith, length-take {A = ℕ})))
