-- Products modulo M term by term, products and the xor by halves, and the digest byte by byte. Assumes nothing.
use Rattle.std.proofs.Common.{◌≡◌, ℕ, ◌+◌, ◌*◌, ◌/◌, ◌%◌, ◌^◌, ◌<◌, ◌≤◌, List, length, get_or, take, drop, sym, refl, ap, ◌∙◌, zero-add, zero-mul, mul-one, mul-add, add-one, arith, drop_of_length-le, drop-cons, length-take, get_or-take}
use native.Mathlib.Nat.{add-mod, mod-add-mod, div-div-eq-div-mul}
use lib.Bits.{bit_xor, xor_block, xor_zero_l}
use Rattle.rules.specs.Digest.{prime, digest_from}

-- one shifted term more
pub plus : (M a m k r s : ℕ) → r ≡ a * m % M → s ≡ (r + a * k % M) % M → s ≡ a * (m + k) % M
plus M a m k r s h e = e ∙ ap (λ (z : ℕ). (z + a * k % M) % M) h ∙ sym (add-mod (a * m) (a * k) M) ∙ ap (λ (z : ℕ). z % M) (sym (mul-add a m k))

-- the multiplicand itself
pub plus_one : (M a m r s : ℕ) → r ≡ a * m % M → s ≡ (r + a) % M → s ≡ a * (m + 1) % M
plus_one M a m r s h e =
    let f : a * m + a ≡ a * (m + 1) = sym (mul-add a m 1 ∙ ap (λ (z : ℕ). a * m + z) (mul-one a)) in
    e ∙ ap (λ (z : ℕ). (z + a) % M) h ∙ mod-add-mod (a * m) M a ∙ ap (λ (z : ℕ). z % M) f

-- what the product of 32 bits by 435 carries, by products of 16
pub carried : (x : ℕ) → x < 2 ^ 32 → (x / 2 ^ 16 * 435 % 2 ^ 32 + x % 2 ^ 16 * 435 % 2 ^ 32 / 2 ^ 16) / 2 ^ 16 ≡ x * 435 / 2 ^ 32
carried x l =
    let a : x / 2 ^ 16 * 435 % 2 ^ 32 ≡ x / 2 ^ 16 * 435 = omega arith in
    let b : x % 2 ^ 16 * 435 % 2 ^ 32 ≡ x % 2 ^ 16 * 435 = omega arith in
    let e : x / 2 ^ 16 * 435 + x % 2 ^ 16 * 435 / 2 ^ 16 ≡ x * 435 / 2 ^ 16 = omega arith in
    rw (a, b, e) (div-div-eq-div-mul (x * 435) (2 ^ 16) (2 ^ 16))

-- ---- 64 bits by their halves

-- the product by 435
pub by_halves : (high low : ℕ) → (high * 435 % 2 ^ 32 + low * 435 / 2 ^ 32) % 2 ^ 32 * 2 ^ 32 + low * 435 % 2 ^ 32 ≡ (high * 2 ^ 32 + low) * 435 % 2 ^ 64
by_halves high low = omega arith

-- the shift by 40: the upper half is shifted out
pub upper_shifted : (high low : ℕ) → low * 2 ^ 8 % 2 ^ 32 * 2 ^ 32 ≡ (high * 2 ^ 32 + low) * 2 ^ 40 % 2 ^ 64
upper_shifted high low = omega arith

-- the prime is 2^40 + 435
pub prime_apart :
    (h high low s : ℕ) → low < 2 ^ 32 → high * 2 ^ 32 + low ≡ h * 435 % 2 ^ 64 → s * 2 ^ 32 ≡ h * 2 ^ 40 % 2 ^ 64 → (high + s) % 2 ^ 32 * 2 ^ 32 + low ≡ h * prime % 2 ^ 64
prime_apart h high low s l p q =
    let e : (high + s) % 2 ^ 32 * 2 ^ 32 + low ≡ (s * 2 ^ 32 + (high * 2 ^ 32 + low)) % 2 ^ 64 = omega arith in
    e ∙ rw (p, q) (plus (2 ^ 64) h (2 ^ 40) 435 _ _ refl refl)

-- a byte xored in reaches the lower half alone
xor_low :
    (byte high low : ℕ) → byte < 2 ^ 32 → low < 2 ^ 32 → high * 2 ^ 32 + bit_xor byte low ≡ bit_xor byte (high * 2 ^ 32 + low)
xor_low byte high low b l = sym (simp (zero-mul, zero-add, xor_zero_l) at (xor_block 32 0 high byte low b l))

-- the byte that a loop comes to, where it goes over the first k of the bytes
pub byte_in_front : (k i : ℕ) (s : List ℕ) → i < length (take k s) → get_or (take k s) i 0 ≡ get_or s i 0
byte_in_front k i s l = get_or-take k s i 0 (omega (arith, length-take {A = ℕ}))

-- what is left to run over, a byte further on
pub digest_more :
    (high low g : ℕ) (s : List ℕ) (i x : ℕ) → g ≡ (high * 2 ^ 32 + bit_xor x low) * prime % 2 ^ 64 → x ≡ get_or s i 0 → i < length s → get_or s i 0 < 2 ^ 32 → low < 2 ^ 32
    → digest_from (high * 2 ^ 32 + low) (drop i s) ≡ digest_from g (drop (i + 1) s)
unfolding digest_from
digest_more high low g s i x e q l b f =
    let h : g ≡ (high * 2 ^ 32 + bit_xor (get_or s i 0) low) * prime % 2 ^ 64 = rw (← q) e in
    simp (drop-cons s i 0 l, h, xor_low (get_or s i 0) high low b f, add-one i)

-- nothing left
pub digest_done : (h : ℕ) (s : List ℕ) (i : ℕ) → length s ≤ i → digest_from h (drop i s) ≡ h
unfolding digest_from
digest_done h s i l = simp (drop_of_length-le s l)
