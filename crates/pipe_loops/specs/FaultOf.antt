-- The fault that a refused event is.
use Rattle.daemon_core.specs.declared.event.EventRefusal.{EventRefusal}
use Rattle.pipe_loops.specs.declared.fault.StreamFault.{StreamFault}

abbrev pub fault_of : EventRefusal → StreamFault
fault_of EventRefusal.Starved = StreamFault.Starved
fault_of EventRefusal.RecordTooLong = StreamFault.RecordTooLong
fault_of EventRefusal.StoreRefused = StreamFault.StoreRefused

-- memory was wanting
abbrev pub starved_fault : StreamFault
starved_fault = StreamFault.Starved

-- a read failed
abbrev pub failed_read : StreamFault
failed_read = StreamFault.ReadFault

-- a write failed
abbrev pub failed_write : StreamFault
failed_write = StreamFault.WriteFault
