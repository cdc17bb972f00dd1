-- A file that is read with a dictionary. Definitions only.
use Rattle.std.specs.Prelude.{ℕ, ◌≡◌, true, List, length, replicate}
use Rattle.spec_ntriples.specs.Texts.{TextTriple}
use Rattle.spec_ntriples.specs.computed.Lines.{triples, document}
use Rattle.spec_ntriples.specs.Dictionary.{entries, is_dictionary}
use Rattle.dictionary_bytes.specs.declared.Filled.{Filled}
use Rattle.dictionary_bytes.specs.inside.Entries.{FilledBy}

-- Questions 1 and 13 are asked: the file is a document of n triples, the dictionary is one and filled so far; and the delivery is zero.
pub record CanRead (file : List ℕ) (n : ℕ) (bs : List ℕ) (f : Filled) (delivery : List ℕ) : Type 0 where
  pub lines : List TextTriple
  pub said : document file ≡ triples lines
  pub counted : n ≡ length lines
  pub formed : is_dictionary bs ≡ true
  pub filled : FilledBy bs f (entries bs)
  pub zeros : delivery ≡ replicate (length delivery) 0
