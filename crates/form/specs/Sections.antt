-- Whether a section of the bytes is that of the state in them.
use Rattle.std.specs.Prelude.{ℕ, Bool, List, [], ◌∷◌, get_or}
use Rattle.octets.specs.Sections.{cuts}
use Rattle.rules.specs.Choice.{all_of, same}
use Rattle.rules.specs.Image.{lengths, sections, state_of}
use Rattle.rules.specs.declared.Shape.{Shape}

-- section i has its form
unfoldable pub section_form : Shape → List ℕ → ℕ → Bool
section_form sh b i = same (get_or (sections sh (state_of sh b)) i []) (get_or (cuts b 0 (lengths sh)) i [])

-- all but the points heard and the notes have
unfoldable pub tables_form : Shape → List ℕ → Bool
tables_form sh b =
    all_of
    (section_form sh b 0
    ∷ section_form sh b 1
    ∷ section_form sh b 3
    ∷ section_form sh b 4
    ∷ section_form sh b 5
    ∷ section_form sh b 7
    ∷ section_form sh b 8
    ∷ section_form sh b 9
    ∷ [])
