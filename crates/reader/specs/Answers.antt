-- What a reader answers: the one message within the allowance of an account, with its margin and e; or why
-- there is none.
use Rattle.std.specs.Prelude.{◌≡◌, ℕ, ◌-◌, ◌<◌, ◌≤◌, List, take, Ok, Err, Result}
use Rattle.fault.specs.declared.Ground.{Ground}
use Rattle.fault.specs.declared.Layer.TheVariants as layer
use Rattle.algebra.specs.Polynomial.{Below, coefficients}
use Rattle.plan.specs.Accounts.{Account, Within, margin, missing, wrong}
use Rattle.plan.specs.Schemes.{Scheme, message_length, word_length}
use Rattle.reader.specs.declared.answers.Reading.{Reading}
use Rattle.reader.specs.declared.answers.ReaderFault.{ReaderFault}
use Rattle.reader.specs.declared.answers.ReaderFault.TheVariants.{TooMuchMissing, NoMessage}

-- The message of a reading: the codes that count in its table.
abbrev pub message_of : Reading → List ℕ
message_of reading = take reading.count reading.message

abbrev pub Answered : Scheme → Account → Result Reading ReaderFault → Type 0
Answered s account (Ok reading) =
    Within s account (message_of reading)
    × (reading.margin ≡ margin s account (message_of reading))
    × (reading.wrong ≡ wrong s account (message_of reading))
Answered s account (Err (TooMuchMissing excess)) =
    (word_length s - message_length s < missing s account) × (excess ≡ missing s account - (word_length s - message_length s))
Answered s account (Err NoMessage) =
    (missing s account ≤ word_length s - message_length s) × ((message : List ℕ) → ¬ (Within s account message))

-- After the message the table of a reading holds zeros.
abbrev pub Padded : Scheme → Result Reading ReaderFault → Type 0
Padded s (Ok reading) = Below (message_length s) (coefficients reading.message)
Padded s (Err fault) = Unit {0}

-- Number, layer and places of each fault; a rack adds the slot as the first place.
abbrev pub reader_ground : ReaderFault → Ground
reader_ground (TooMuchMissing excess) = record { number = 18; layer = layer.Reader; first = 0; second = excess }
reader_ground NoMessage = record { number = 19; layer = layer.Reader; first = 0; second = 0 }
