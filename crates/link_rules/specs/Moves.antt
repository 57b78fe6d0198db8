-- What a response reads of a world, and what it does to it in one move.
use Rattle.std.specs.Prelude.{ℕ, ◌+◌, ◌-◌, List, Option, Some, None}
use Rattle.uuid_value.specs.declared.Uuid.{Uuid}
use Rattle.lists.specs.Blocks.{bytes}
use Rattle.time.specs.declared.Micros.{Micros}
use Rattle.lists.specs.Cut.{entries}
use Rattle.gatt_services.specs.Service as service
use Rattle.gatt_services.specs.declared.Service.{Service}
use Rattle.gatt_descriptors.specs.Range.{descriptor_range}
use Rattle.state.specs.Central.{Central, with_bearer}
use Rattle.state.specs.declared.StepStatus.{StepStatus}
use Rattle.state.specs.declared.StepStatus.TheVariants.{Ok}
use Rattle.script_rules.specs.World.{World, on_held, on_state}
use Rattle.script_rules.specs.Finish.{answered, with_link, finish}
use Rattle.script_rules.specs.Start.{ends}
use Rattle.link_rules.specs.Payload.{payload_at}

-- the running step ends, with no value
abbrev pub over : World → Micros → StepStatus → World
over w at status = on_held w (ends w.held at status)

-- a read's value: the body behind the opcode
abbrev pub value_read : World → Micros → ℕ → World
value_read w at n = on_held w (finish w.held at Ok (payload_at + 1) (n - 1) 0)

-- the state changes
abbrev pub become : World → Central → World
become w c = on_held w (on_state w.held c)

-- the service of a UUID, if it is known
abbrev pub service_of : World → Uuid → Option Service
service_of w u = service.service_with u (service.known w.held.state.services)

-- the entries of an answer of n bytes: behind its opcode and one byte more (Part F 3.4.3.2, 3.4.4.2, 3.4.4.10)
abbrev pub entries_of : World → ℕ → ℕ → List (List ℕ)
entries_of w n size = entries size (bytes w.held.store (payload_at + 2) (n - 2))

-- where the range that was asked for ends
abbrev pub range_end : ℕ → Option (ℕ × ℕ) → ℕ
range_end end None = end
range_end end (Some (start, to)) = to

-- the handle after the range that was asked for, from the cursor on
abbrev pub after_range : World → Service → ℕ
after_range w svc =
    let c = w.held.state in
    range_end svc.end (descriptor_range c.characteristics svc.start svc.end c.running.cursor) + 1

-- none is awaited any more
abbrev pub unasked : Central → Central
unasked c = with_bearer c (with_link c.bearer (answered c.bearer.link))
