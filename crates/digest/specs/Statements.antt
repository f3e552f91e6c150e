-- The statements of the digest's functions, as predicates over what is given and the answer r. Each `ensures` is its predicate, and proofs/Promises shows that two
-- answers that satisfy it are one.
use Rattle.std.specs.Prelude.{◌≡◌, ℕ, List}
use Rattle.rules.specs.Digest.{basis, digest_from}

-- digest_on: run on from h over the bytes b
abbrev pub DigestsOn : (h : ℕ) (b : List ℕ) → (r : ℕ) → Type 0
DigestsOn h b r = r ≡ digest_from h b

-- digest_of: of the bytes b alone
abbrev pub Digests : (b : List ℕ) → (r : ℕ) → Type 0
Digests b r = r ≡ digest_from basis b
