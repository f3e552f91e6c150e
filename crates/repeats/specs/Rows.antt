-- Where the keys stand: three runs, one after the other in number, with one stride. A key is the number that 6 bytes say.
use Rattle.std.specs.Prelude.{ℕ, ◌+◌, ◌-◌, ◌*◌, ◌≤◌, ◌<◌, List, ltb, length}
use Rattle.octets.specs.Bytes.{num}
use Rattle.rules.specs.Choice.{pick}
use Rattle.repeats.specs.declared.Spots.{Spots}

-- how many keys there are
abbrev pub count_of : Spots → ℕ
count_of sp = sp.first.count + sp.second.count + sp.third.count

-- where key i stands
unfoldable pub spot_of : Spots → ℕ → ℕ
spot_of sp i =
    pick (ltb i sp.first.count) (sp.first.at + sp.stride * i)
    (pick (ltb (i - sp.first.count) sp.second.count) (sp.second.at + sp.stride * (i - sp.first.count))
    (sp.third.at + sp.stride * (i - sp.first.count - sp.second.count)))

-- key i
unfoldable pub key_of : List ℕ → Spots → ℕ → ℕ
key_of b sp i = num b (spot_of sp i) 6

-- every key lies inside b: of each run, the last key ends in b. Their number is one of 8 bytes
pub record Inside (b : List ℕ) (sp : Spots) : Type 0 where
  pub one : sp.first.at + sp.stride * sp.first.count + 6 ≤ length b + sp.stride
  pub two : sp.second.at + sp.stride * sp.second.count + 6 ≤ length b + sp.stride
  pub three : sp.third.at + sp.stride * sp.third.count + 6 ≤ length b + sp.stride
  pub few : count_of sp < 18446744073709551616
