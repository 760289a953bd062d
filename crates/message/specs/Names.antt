-- The names under which the kinds are told.
use Rattle.std.specs.Prelude.{ℕ, List, codes}
use Rattle.message.specs.declared.attribute_kind.AttributeKind.{AttributeKind}
use Rattle.message.specs.declared.attribute_kind.AttributeKind.TheVariants.{Header, EndpointName, CallingPartyNumber, CalledPartyNumber, TerminationCause, RelatedCall, ChargeNumber, RoutingNumber, UdpPort, ServiceFlow, Direction, TimeAdjustment, FlowDirection}
use Rattle.message.specs.declared.event_kind.EventKind.{EventKind}
use Rattle.message.specs.declared.event_kind.EventKind.TheVariants.{SignalingStart, SignalingStop, QosReserve, QosRelease, CallAnswer, CallDisconnect, TimeChange, QosCommit, MediaAlive}
use Rattle.message.specs.declared.element_type.ElementType.{ElementType}
use Rattle.message.specs.declared.element_type.ElementType.TheVariants.{CallManagementServer, CableModemTerminationSystem, MediaGatewayController}

abbrev pub attribute_name : AttributeKind → List ℕ
attribute_name Header = codes "header"
attribute_name EndpointName = codes "MTA_Endpoint_Name"
attribute_name CallingPartyNumber = codes "Calling_Party_Number"
attribute_name CalledPartyNumber = codes "Called_Party_Number"
attribute_name TerminationCause = codes "Call_Termination_Cause"
attribute_name RelatedCall = codes "Related_Call_BCID"
attribute_name ChargeNumber = codes "Charge_Number"
attribute_name RoutingNumber = codes "Routing_Number"
attribute_name UdpPort = codes "MTA_UDP_Portnum"
attribute_name ServiceFlow = codes "SF_ID"
attribute_name Direction = codes "Direction_indicator"
attribute_name TimeAdjustment = codes "Time_Adjustment"
attribute_name FlowDirection = codes "Flow_Direction"

abbrev pub event_name : EventKind → List ℕ
event_name SignalingStart = codes "Signaling_Start"
event_name SignalingStop = codes "Signaling_Stop"
event_name QosReserve = codes "QoS_Reserve"
event_name QosRelease = codes "QoS_Release"
event_name CallAnswer = codes "Call_Answer"
event_name CallDisconnect = codes "Call_Disconnect"
event_name TimeChange = codes "Time_Change"
event_name QosCommit = codes "QoS_Commit"
event_name MediaAlive = codes "Media_Alive"

abbrev pub element_name : ElementType → List ℕ
element_name CallManagementServer = codes "call management server"
element_name CableModemTerminationSystem = codes "cable modem termination system"
element_name MediaGatewayController = codes "media gateway controller"
