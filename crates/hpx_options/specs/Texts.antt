-- What the program prints of its command line.
use Rattle.std.specs.Prelude.{ℕ, List, ◌++◌, codes}
use Rattle.std.specs.Fmt.{decimal}

abbrev pub help_text : List ℕ
help_text = codes "usage: hpx APPLICATION [OPTIONS]\n"

abbrev pub version_text : List ℕ
version_text = codes "hpx profile 1\n"

-- the line for the place of a word that is refused
abbrev pub bad_word_text : ℕ → List ℕ
bad_word_text place = codes "hpx: bad word " ++ decimal place ++ codes "\n"
