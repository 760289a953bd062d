-- The kinds of attribute, of event and of element, and the numbers that they have.
use Rattle.std.specs.Prelude.{◌≡◌, ℕ, Bool, true, false, ◌||◌, ◌∷◌, is_some, Some, None, Option, Result, MatchResult, ◌==◌}
use Rattle.message.specs.declared.unknown_number.UnknownNumber.{UnknownNumber}
use Rattle.message.specs.declared.attribute_kind.AttributeKind.{AttributeKind}
use Rattle.message.specs.declared.attribute_kind.AttributeKind.TheVariants.{Header, EndpointName, CallingPartyNumber, CalledPartyNumber, TerminationCause, RelatedCall, ChargeNumber, RoutingNumber, UdpPort, ServiceFlow, Direction, TimeAdjustment, FlowDirection}
use Rattle.message.specs.declared.event_kind.EventKind.{EventKind}
use Rattle.message.specs.declared.event_kind.EventKind.TheVariants.{SignalingStart, SignalingStop, QosReserve, QosRelease, CallAnswer, CallDisconnect, TimeChange, QosCommit, MediaAlive}
use Rattle.message.specs.declared.element_type.ElementType.{ElementType}
use Rattle.message.specs.declared.element_type.ElementType.TheVariants.{CallManagementServer, CableModemTerminationSystem, MediaGatewayController}
use Rattle.message.specs.Tables.{beside}
use Rattle.message.specs.Values.{widths}

-- what a number is converted to: that which has the number, or an error where the number is not known
abbrev pub Found : {K : Type 0} → (K → ℕ) → (ℕ → Bool) → ℕ → Result K UnknownNumber → Type 0
Found of known n r = MatchResult r (λ k. (of k ≡ n) × (known n ≡ true)) (λ _. known n ≡ false)

abbrev pub number_of : AttributeKind → ℕ
number_of Header = 1
number_of EndpointName = 3
number_of CallingPartyNumber = 4
number_of CalledPartyNumber = 5
number_of TerminationCause = 11
number_of RelatedCall = 13
number_of ChargeNumber = 16
number_of RoutingNumber = 25
number_of UdpPort = 26
number_of ServiceFlow = 30
number_of Direction = 37
number_of TimeAdjustment = 38
number_of FlowDirection = 50

-- the header's number, and those of the other attributes
abbrev pub numbered : ℕ → Bool
numbered n = n == 1 || is_some (beside n widths)

-- the greatest width of a value, a header's 76 bytes among them
abbrev pub greatest : Option (ℕ × ℕ) → ℕ
greatest None = 0
greatest (Some w) = w.1

abbrev pub widest : ℕ → ℕ
widest n = greatest (beside n ((1, (76, 76)) ∷ widths))

-- each kind of event that is listed in the profile
abbrev pub event_number : EventKind → ℕ
event_number SignalingStart = 1
event_number SignalingStop = 2
event_number QosReserve = 7
event_number QosRelease = 8
event_number CallAnswer = 15
event_number CallDisconnect = 16
event_number TimeChange = 17
event_number QosCommit = 19
event_number MediaAlive = 20

abbrev pub element_number : ElementType → ℕ
element_number CallManagementServer = 1
element_number CableModemTerminationSystem = 2
element_number MediaGatewayController = 3

abbrev pub element_listed : ℕ → Bool
element_listed n = n == 1 || n == 2 || n == 3
