-- Any two answers that satisfy the statement of a digest coincide. Assumes nothing.
use Rattle.std.proofs.Common.{◌≡◌, ℕ, List, sym, ◌∙◌}
use Rattle.digest.specs.Statements.{DigestsOn, Digests}

pub digest_on_one : (h : ℕ) (b : List ℕ) (x y : ℕ) → DigestsOn h b x → DigestsOn h b y → x ≡ y
digest_on_one h b x y p q = p ∙ sym q

pub digest_of_one : (b : List ℕ) (x y : ℕ) → Digests b x → Digests b y → x ≡ y
digest_of_one b x y p q = p ∙ sym q
