-- Sizes (01, 'Sizes') and the places of the lent store (01: 65 x 244, 64 x 246, 32 x 244, 251, 64 x 62, in this order).
use Rattle.std.specs.Prelude.{ℕ, ◌+◌, ◌*◌}

-- ---- how many of each

abbrev pub most_steps : ℕ
most_steps = 64

abbrev pub most_results : ℕ
most_results = 64

abbrev pub most_reports : ℕ
most_reports = 64

abbrev pub most_notifications : ℕ
most_notifications = 32

abbrev pub most_services : ℕ
most_services = 32

abbrev pub most_characteristics : ℕ
most_characteristics = 64

abbrev pub most_keys : ℕ
most_keys = 128

-- ---- how many bytes

-- a step value, a `contains`, a notification
abbrev pub value_size : ℕ
value_size = 244

-- a result's value: the body of a read response in a held frame
abbrev pub result_size : ℕ
result_size = 246

-- a whole frame: its 4 bytes in front and at most 247 of payload
abbrev pub frame_size : ℕ
frame_size = 251

-- advertising data, or a scan response
abbrev pub data_size : ℕ
data_size = 31

abbrev pub store_size : ℕ
store_size = 43631

-- 65 frames
abbrev pub output_size : ℕ
output_size = 16315

-- ---- where each stands

-- the running step's value
abbrev pub running_at : ℕ
running_at = 0

-- the value of waiting step i
abbrev pub waiting_at : ℕ → ℕ
waiting_at i = 244 + 244 * i

-- the value of kept result i
abbrev pub result_at : ℕ → ℕ
result_at i = 15860 + 246 * i

-- the value of kept notification i
abbrev pub notification_at : ℕ → ℕ
notification_at i = 31604 + 244 * i

-- the bytes held of a frame
abbrev pub held_at : ℕ
held_at = 39412

-- report i: its advertising data
abbrev pub report_at : ℕ → ℕ
report_at i = 39663 + 62 * i

-- report i: its scan response
abbrev pub response_at : ℕ → ℕ
response_at i = 39694 + 62 * i
