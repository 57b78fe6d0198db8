-- What a fit state has in its counters (01, 'Refusal numbers', "Fit means"; 02, One).
use Rattle.std.specs.Prelude.{ℕ, ◌+◌, Bool, ◌&&◌, leb}
use Rattle.state.specs.declared.Counts.{Counts}
use Rattle.state.specs.declared.Counters.{Counters}

-- ---- kept notifications <= notified <= 2^62

abbrev pub most_notified : ℕ
most_notified = 4611686018427387904

abbrev pub notified_fits : Counters → ℕ → Bool
notified_fits k kept = leb kept k.notified && leb k.notified most_notified

-- ---- wait_from <= notified

abbrev pub wait_fits : Counters → Bool
wait_fits k = leb k.wait_from k.notified

-- ---- refused_steps <= 2^62 + 64

abbrev pub most_refused : ℕ
most_refused = 4611686018427387968

abbrev pub refused_fits : Counters → Bool
refused_fits k = leb k.refused_steps most_refused

-- ---- next index + waiting <= 4,294,967,295

abbrev pub last_index : ℕ
last_index = 4294967295

abbrev pub index_fits : Counters → ℕ → Bool
index_fits k waiting = leb (k.next_index + waiting) last_index

-- ---- link count <= 2^62 (02, One)

abbrev pub most_links : ℕ
most_links = 4611686018427387904

abbrev pub link_count_fits : Counters → Bool
link_count_fits k = leb k.links most_links

-- ---- all of them

unfoldable pub counters_fit : Counters → Counts → Bool
counters_fit k n = notified_fits k n.notifications && wait_fits k && refused_fits k && index_fits k n.waiting && link_count_fits k
