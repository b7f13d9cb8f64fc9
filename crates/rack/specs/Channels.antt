-- The two channels, their numbers and their letters.
use Rattle.std.specs.Prelude.{ℕ, cond, List, Some, None, Option, ◌==◌, codes}
use Rattle.rack.specs.declared.channel.Channel.{Channel}
use Rattle.rack.specs.declared.channel.Channel.TheVariants as channel

-- How many channels there are; they are numbered from 0.
abbrev pub channels : ℕ
channels = 2

abbrev pub channel_number : Channel → ℕ
channel_number channel.A = 0
channel_number channel.B = 1

-- The channel of a number below `channels`; it is asked of no other.
abbrev pub channel_numbered : ℕ → Channel
channel_numbered number = cond (number == 0) channel.A channel.B

-- The channel of any number, if there is one.
abbrev pub channel_of : ℕ → Option Channel
channel_of number = cond (number == 0) (Some channel.A) (cond (number == 1) (Some channel.B) None)

-- The letter that a channel is printed as.
abbrev pub channel_letter : Channel → List ℕ
channel_letter channel.A = codes "A"
channel_letter channel.B = codes "B"
