-- Words that are all zero say the tables of a fresh state.
use Prim.Native.Nat.{ℕ, zero, suc, ◌+◌}
use mathlib.Core.Path.{◌≡◌, refl, ap, ◌∙◌}
use mathlib.Core.List.{List, ◌∷◌}
use lib.ListN.{get_or, replicate}
use Rattle.gatt_services.specs.Service.{zero-service}
use Rattle.gatt_characteristics.specs.Characteristic.{zero-characteristic}
use Rattle.state.specs.Fresh.{no_queued, no_result, no_notification}
use Rattle.state.specs.declared.Heard.{Heard}
use Rattle.words.specs.Table.{table_from, table}
use Rattle.words.specs.Words.{step_of, len_of, flat_of, queued_of, status_of, result_of, service_of, cccd_of, characteristic_of, notification_of, channel_of, pdu_of, data_len_of, response_of, time_of}
use Rattle.words.specs.Tables.{tables_size, word, Tables, tables, steps_in, results_in, services_in, characteristics_in, notifications_in, who_in, heard_in, keys_in}
use Rattle.words.proofs.TableLaws.{table_same}

zeros : (n k : ℕ) → ◌≡◌ {A = ℕ} (get_or (replicate n 0) k 0) 0
zeros zero k = refl
zeros (suc n) zero = refl
zeros (suc n) (suc k) = zeros n k

module _ {A : Type 0} where
  constant : (i n : ℕ) (x : A) → table_from i n (λ j. x) ≡ replicate n x
  unfolding table_from
  constant i zero x = refl
  constant i (suc n) x = ap (λ (l : List A). x ∷ l) (constant (suc i) n x)

  all_same : (n : ℕ) (f : ℕ → A) (x : A) → ((k : ℕ) → f k ≡ x) → table n f ≡ replicate n x
  all_same n f x h = table_same n f (λ j. x) (λ k b. h k) ∙ constant 0 n x

abbrev pub no_words : List ℕ
no_words = replicate tables_size 0

z : (k : ℕ) → ◌≡◌ {A = ℕ} (get_or no_words k 0) 0
z k = zeros 1152 k

no-queued : queued_of (flat_of 0 0 0 0) ≡ no_queued
unfolding step_of len_of
no-queued = refl

no_result_lem : result_of 0 0 0 ≡ no_result
unfolding result_of status_of
no_result_lem = refl

no-service : service_of 0 0 0 ≡ zero-service
unfolding service_of
no-service = refl

no-characteristic : characteristic_of 0 0 0 ≡ zero-characteristic
unfolding characteristic_of cccd_of
no-characteristic = refl

no-notification : notification_of 0 0 0 ≡ no_notification
unfolding notification_of
no-notification = refl

no-response : response_of 0 ≡ 0
unfolding response_of
no-response = refl

fresh-steps : steps_in no_words ≡ replicate 64 no_queued
unfolding steps_in
fresh-steps = all_same 64 (λ i. queued_of (flat_of (word no_words 0 i) (word no_words 64 i) (word no_words 128 i) (word no_words 192 i))) no_queued (λ k. rw (z (0 + k), z (64 + k), z (128 + k), z (192 + k)) no-queued)

fresh-results : results_in no_words ≡ replicate 64 no_result
unfolding results_in
fresh-results = all_same 64 (λ i. result_of (word no_words 256 i) (word no_words 320 i) (word no_words 1088 i)) no_result (λ k. rw (z (256 + k), z (320 + k), z (1088 + k)) no_result_lem)

fresh-services : services_in no_words ≡ replicate 32 zero-service
unfolding services_in
fresh-services = all_same 32 (λ i. service_of (word no_words 384 i) (word no_words 416 i) (word no_words 448 i)) zero-service (λ k. rw (z (384 + k), z (416 + k), z (448 + k)) no-service)

fresh-characteristics : characteristics_in no_words ≡ replicate 64 zero-characteristic
unfolding characteristics_in
fresh-characteristics = all_same 64 (λ i. characteristic_of (word no_words 480 i) (word no_words 544 i) (word no_words 608 i)) zero-characteristic (λ k. rw (z (480 + k), z (544 + k), z (608 + k)) no-characteristic)

fresh-notifications : notifications_in no_words ≡ replicate 32 no_notification
unfolding notifications_in
fresh-notifications = all_same 32 (λ i. notification_of (word no_words 672 i) (word no_words 704 i) (word no_words 1056 i)) no_notification
    (λ k. rw (z (672 + k), z (704 + k), z (1056 + k)) no-notification)

fresh-who : who_in no_words ≡ replicate 64 0
unfolding who_in
fresh-who = all_same 64 (λ i. word no_words 736 i) 0 (λ k. z (736 + k))

abbrev no-heard : Heard
no-heard = record { at = replicate 64 (record { 0 = 0 }); channel = replicate 64 0; pdu = replicate 64 0; len = replicate 64 0; response = replicate 64 0 }

fresh-heard : heard_in no_words ≡ no-heard
unfolding heard_in
fresh-heard =
    rw (
      all_same 64 (λ i. time_of (word no_words 800 i)) (time_of 0) (λ k. ap time_of (z (800 + k))),
      all_same 64 (λ i. channel_of (word no_words 864 i)) 0 (λ k. ap channel_of (z (864 + k))),
      all_same 64 (λ i. pdu_of (word no_words 864 i)) 0 (λ k. ap pdu_of (z (864 + k))),
      all_same 64 (λ i. data_len_of (word no_words 864 i)) 0 (λ k. ap data_len_of (z (864 + k))),
      all_same 64 (λ i. response_of (word no_words 864 i)) 0 (λ k. ap response_of (z (864 + k)) ∙ no-response),
    )

fresh-keys : keys_in no_words ≡ replicate 128 0
unfolding keys_in
fresh-keys = all_same 128 (λ i. word no_words 928 i) 0 (λ k. z (928 + k))

abbrev pub fresh-tables : Tables
fresh-tables =
    record {
      steps = replicate 64 no_queued;
      results = replicate 64 no_result;
      services = replicate 32 zero-service;
      characteristics = replicate 64 zero-characteristic;
      notifications = replicate 32 no_notification;
      who = replicate 64 0;
      heard = no-heard;
      keys = replicate 128 0;
    }

pub fresh-words : tables no_words ≡ fresh-tables
fresh-words = rw (fresh-steps, fresh-results, fresh-services, fresh-characteristics, fresh-notifications, fresh-who, fresh-heard, fresh-keys)
