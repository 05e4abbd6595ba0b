-- Names for parts of the definitions in specs/Placed, for the lemmas on these parts.
use Rattle.std.specs.Prelude.{ℕ, List, [], ◌∷◌, Option, None, Some, Bool, false, ◌||◌, ◌==◌, Result, Err}
use Rattle.std.specs.Str.{bytes_eq}
use Rattle.uacp.specs.declared.types.Kind.{Kind}
use Rattle.uacp.specs.declared.types.Kind.TheVariants.{Hello, Open, Close, Message}
use Rattle.uacp.specs.declared.types.Letter.{Letter}
use Rattle.ua_channel.specs.declared.fault.ChannelFault.{ChannelFault}
use Rattle.ua_channel.specs.declared.fault.ChannelFault.TheVariants.{Policy, ChannelId, Sequence, Decoding}
use Rattle.ua_channel.specs.Headers.{policy_none}
use Rattle.ua_channel.specs.Placed.{Heard, Placed, closing_judged, is_next_number, message_judged, opening_judged}

-- a chunk of a channel that hasn't ended; a Hello is no chunk of one
abbrev pub judged_by : Heard → Kind → Letter → List ℕ → Result Placed ChannelFault
judged_by heard kind letter body = elim kind [
  | Hello ↦ Err Decoding
  | Open ↦
      opening_judged heard body
  | Close ↦ closing_judged heard body
  | Message ↦
      message_judged heard letter body
]

-- of an OPN chunk, by its security header
abbrev pub security_rules : Heard → ℕ × Option (List ℕ) → List (Bool × ChannelFault)
security_rules heard header = (
  elim header.1 [ None ↦ false | Some uri ↦ bytes_eq uri policy_none ],
  Policy,
) ∷ ((heard.openings == 0) || (header.0 == 1), ChannelId) ∷ []

-- by its sequence header
abbrev pub sequence_rules : Heard → ℕ × ℕ → List (Bool × ChannelFault)
sequence_rules heard header = (is_next_number heard.last header.0, Sequence)
    ∷ (heard.chunks == 0, Sequence) ∷ []
