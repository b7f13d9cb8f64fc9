-- What is said of a reading that gives no message, in a sentence without its full stop.
use Rattle.std.specs.Prelude.{ℕ, List, ◌++◌, codes, decimal}
use Rattle.reader.specs.declared.answers.ReaderFault.{ReaderFault}
use Rattle.reader.specs.declared.answers.ReaderFault.TheVariants.{TooMuchMissing, NoMessage}

abbrev pub reader_sentence : ReaderFault → List ℕ
reader_sentence (TooMuchMissing excess) = codes "the degrees of the missing positions pass N - K by " ++ decimal excess
reader_sentence NoMessage = codes "no message lies within the allowance of what has arrived"

-- No sentence has more bytes.
abbrev pub longest_sentence : ℕ
longest_sentence = 80
