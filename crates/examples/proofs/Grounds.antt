use Rattle.std.proofs.Common.{refl}
use Rattle.examples.specs.Grounds.{GroundTable}

pub grounds : GroundTable
grounds =
    record {
      too_long = record { number_is = refl; letter_is = refl; first_is = refl; second_is = refl };
      not_a_sheet = λ byte. record { number_is = refl; letter_is = refl; first_is = refl; second_is = refl };
      no_modulus = λ line. record { number_is = refl; letter_is = refl; first_is = refl; second_is = refl };
      shape = record { number_is = refl; letter_is = refl; first_is = refl; second_is = refl };
      modulus = λ position. record { number_is = refl; letter_is = refl; first_is = refl; second_is = refl };
      total_degree = record { number_is = refl; letter_is = refl; first_is = refl; second_is = refl };
      shared_factor = λ i j. record { number_is = refl; letter_is = refl; first_is = refl; second_is = refl };
      depth = record { number_is = refl; letter_is = refl; first_is = refl; second_is = refl };
      no_fit = record { number_is = refl; letter_is = refl; first_is = refl; second_is = refl };
      no_channel = record { number_is = refl; letter_is = refl; first_is = refl; second_is = refl };
      no_slot = λ slot. record { number_is = refl; letter_is = refl; first_is = refl; second_is = refl };
      is_closed = λ slot. record { number_is = refl; letter_is = refl; first_is = refl; second_is = refl };
      open_already = λ slot. record { number_is = refl; letter_is = refl; first_is = refl; second_is = refl };
      other_channel = λ slot. record { number_is = refl; letter_is = refl; first_is = refl; second_is = refl };
      no_position = λ slot position. record { number_is = refl; letter_is = refl; first_is = refl; second_is = refl };
      wrong_length = λ slot right. record { number_is = refl; letter_is = refl; first_is = refl; second_is = refl };
      no_code = λ slot index. record { number_is = refl; letter_is = refl; first_is = refl; second_is = refl };
      message_length = λ right. record { number_is = refl; letter_is = refl; first_is = refl; second_is = refl };
      word_length = λ right. record { number_is = refl; letter_is = refl; first_is = refl; second_is = refl };
      message_code = λ index. record { number_is = refl; letter_is = refl; first_is = refl; second_is = refl };
      too_much_missing = λ slot excess. record { number_is = refl; letter_is = refl; first_is = refl; second_is = refl };
      no_message = λ slot. record { number_is = refl; letter_is = refl; first_is = refl; second_is = refl };
      reader_missing = λ excess. record { number_is = refl; letter_is = refl; first_is = refl; second_is = refl };
      reader_none = record { number_is = refl; letter_is = refl; first_is = refl; second_is = refl };
    }
