-- A table reads the same where its words are the same; what a place reads; how long each table is.
use Prim.Native.Nat.{ℕ, ◌+◌, ◌<◌}
use mathlib.Core.Path.{◌≡◌, ap}
use mathlib.Core.List.{List}
use native.Mathlib.Omega.{arith}
use lib.ListN.{length, get_or}
use Rattle.gatt_services.specs.Service.{zero-service}
use Rattle.gatt_characteristics.specs.Characteristic.{zero-characteristic}
use Rattle.state.specs.Fresh.{no_queued, no_result, no_notification}
use Rattle.words.specs.Words.{flat_of, queued_of, result_of, service_of, characteristic_of, notification_of, channel_of, pdu_of, data_len_of, response_of, time_of}
use Rattle.words.specs.Tables.{word, steps_in, results_in, services_in, characteristics_in, notifications_in, who_in, heard_in, keys_in}
use Rattle.words.specs.Rows.{Same}
use Rattle.words.proofs.TableLaws.{table-length, table_at, table_same}

module _ (w v : List ℕ) where
  pub steps-same : Same 0 256 w v → steps_in v ≡ steps_in w
  unfolding steps_in
  steps-same h =
      table_same 64 (λ i. queued_of (flat_of (word v 0 i) (word v 64 i) (word v 128 i) (word v 192 i))) (λ i. queued_of (flat_of (word w 0 i) (word w 64 i) (word w 128 i) (word w 192 i)))
      (λ k b. rw (h (0 + k) (omega arith) (omega arith), h (64 + k) (omega arith) (omega arith), h (128 + k) (omega arith) (omega arith), h (192 + k) (omega arith) (omega arith)))

  pub results_same : Same 256 384 w v → Same 1088 1152 w v → results_in v ≡ results_in w
  unfolding results_in
  results_same h g =
      table_same 64 (λ i. result_of (word v 256 i) (word v 320 i) (word v 1088 i)) (λ i. result_of (word w 256 i) (word w 320 i) (word w 1088 i))
      (λ k b. rw (h (256 + k) (omega arith) (omega arith), h (320 + k) (omega arith) (omega arith), g (1088 + k) (omega arith) (omega arith)))

  pub services-same : Same 384 480 w v → services_in v ≡ services_in w
  unfolding services_in
  services-same h =
      table_same 32 (λ i. service_of (word v 384 i) (word v 416 i) (word v 448 i)) (λ i. service_of (word w 384 i) (word w 416 i) (word w 448 i))
      (λ k b. rw (h (384 + k) (omega arith) (omega arith), h (416 + k) (omega arith) (omega arith), h (448 + k) (omega arith) (omega arith)))

  pub characteristics-same : Same 480 672 w v → characteristics_in v ≡ characteristics_in w
  unfolding characteristics_in
  characteristics-same h =
      table_same 64 (λ i. characteristic_of (word v 480 i) (word v 544 i) (word v 608 i)) (λ i. characteristic_of (word w 480 i) (word w 544 i) (word w 608 i))
      (λ k b. rw (h (480 + k) (omega arith) (omega arith), h (544 + k) (omega arith) (omega arith), h (608 + k) (omega arith) (omega arith)))

  pub notifications-same : Same 672 736 w v → Same 1056 1088 w v → notifications_in v ≡ notifications_in w
  unfolding notifications_in
  notifications-same h g =
      table_same 32 (λ i. notification_of (word v 672 i) (word v 704 i) (word v 1056 i)) (λ i. notification_of (word w 672 i) (word w 704 i) (word w 1056 i))
      (λ k b. rw (h (672 + k) (omega arith) (omega arith), h (704 + k) (omega arith) (omega arith), g (1056 + k) (omega arith) (omega arith)))

  pub who-same : Same 736 800 w v → who_in v ≡ who_in w
  unfolding who_in
  who-same h = table_same 64 (λ i. word v 736 i) (λ i. word w 736 i) (λ k b. h (736 + k) (omega arith) (omega arith))

  pub heard-same : Same 800 928 w v → heard_in v ≡ heard_in w
  unfolding heard_in
  heard-same h =
      rw (
        table_same 64 (λ i. time_of (word v 800 i)) (λ i. time_of (word w 800 i)) (λ k b. ap time_of (h (800 + k) (omega arith) (omega arith))),
        table_same 64 (λ i. channel_of (word v 864 i)) (λ i. channel_of (word w 864 i)) (λ k b. ap channel_of (h (864 + k) (omega arith) (omega arith))),
        table_same 64 (λ i. pdu_of (word v 864 i)) (λ i. pdu_of (word w 864 i)) (λ k b. ap pdu_of (h (864 + k) (omega arith) (omega arith))),
        table_same 64 (λ i. data_len_of (word v 864 i)) (λ i. data_len_of (word w 864 i)) (λ k b. ap data_len_of (h (864 + k) (omega arith) (omega arith))),
        table_same 64 (λ i. response_of (word v 864 i)) (λ i. response_of (word w 864 i)) (λ k b. ap response_of (h (864 + k) (omega arith) (omega arith))),
      )

  pub keys-same : Same 928 1056 w v → keys_in v ≡ keys_in w
  unfolding keys_in
  keys-same h = table_same 128 (λ i. word v 928 i) (λ i. word w 928 i) (λ k b. h (928 + k) (omega arith) (omega arith))

module _ (w : List ℕ) where
  pub length-steps : length (steps_in w) ≡ 64
  unfolding steps_in
  length-steps = table-length 64 (λ i. queued_of (flat_of (word w 0 i) (word w 64 i) (word w 128 i) (word w 192 i)))

  pub length-results : length (results_in w) ≡ 64
  unfolding results_in
  length-results = table-length 64 (λ i. result_of (word w 256 i) (word w 320 i) (word w 1088 i))

  pub length-services : length (services_in w) ≡ 32
  unfolding services_in
  length-services = table-length 32 (λ i. service_of (word w 384 i) (word w 416 i) (word w 448 i))

  pub length-characteristics : length (characteristics_in w) ≡ 64
  unfolding characteristics_in
  length-characteristics = table-length 64 (λ i. characteristic_of (word w 480 i) (word w 544 i) (word w 608 i))

  pub length-notifications : length (notifications_in w) ≡ 32
  unfolding notifications_in
  length-notifications = table-length 32 (λ i. notification_of (word w 672 i) (word w 704 i) (word w 1056 i))

  pub length-who : length (who_in w) ≡ 64
  unfolding who_in
  length-who = table-length 64 (λ i. word w 736 i)

  pub length-keys : length (keys_in w) ≡ 128
  unfolding keys_in
  length-keys = table-length 128 (λ i. word w 928 i)

  -- what place i has
  pub step-at : (i : ℕ) → i < 64 → get_or (steps_in w) i no_queued ≡ queued_of (flat_of (word w 0 i) (word w 64 i) (word w 128 i) (word w 192 i))
  unfolding steps_in
  step-at i h = table_at 64 i (λ j. queued_of (flat_of (word w 0 j) (word w 64 j) (word w 128 j) (word w 192 j))) no_queued h

  pub result-at : (i : ℕ) → i < 64 → get_or (results_in w) i no_result ≡ result_of (word w 256 i) (word w 320 i) (word w 1088 i)
  unfolding results_in
  result-at i h = table_at 64 i (λ j. result_of (word w 256 j) (word w 320 j) (word w 1088 j)) no_result h

  pub service-at : (i : ℕ) → i < 32 → get_or (services_in w) i zero-service ≡ service_of (word w 384 i) (word w 416 i) (word w 448 i)
  unfolding services_in
  service-at i h = table_at 32 i (λ j. service_of (word w 384 j) (word w 416 j) (word w 448 j)) zero-service h

  pub characteristic-at : (i : ℕ) → i < 64 → get_or (characteristics_in w) i zero-characteristic ≡ characteristic_of (word w 480 i) (word w 544 i) (word w 608 i)
  unfolding characteristics_in
  characteristic-at i h = table_at 64 i (λ j. characteristic_of (word w 480 j) (word w 544 j) (word w 608 j)) zero-characteristic h

  pub notification-at : (i : ℕ) → i < 32 → get_or (notifications_in w) i no_notification ≡ notification_of (word w 672 i) (word w 704 i) (word w 1056 i)
  unfolding notifications_in
  notification-at i h = table_at 32 i (λ j. notification_of (word w 672 j) (word w 704 j) (word w 1056 j)) no_notification h

  pub who-at : (i : ℕ) → i < 64 → get_or (who_in w) i 0 ≡ word w 736 i
  unfolding who_in
  who-at i h = table_at 64 i (λ j. word w 736 j) 0 h

  pub key-at : (i : ℕ) → i < 128 → get_or (keys_in w) i 0 ≡ word w 928 i
  unfolding keys_in
  key-at i h = table_at 128 i (λ j. word w 928 j) 0 h
