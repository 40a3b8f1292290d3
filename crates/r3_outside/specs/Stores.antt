-- The files and sinks, as values.
use Rattle.std.specs.Prelude.{ℕ, ◌==◌, Bool, not, ◌||◌, List, map, Option, refl, String, string_bytes}
use Rattle.std.specs.Coded.{Coded, code_by, coded×, coded_list, coded_option, coded_ℕ}
use Rattle.std.specs.List.{list_any}
use Rattle.std.specs.Ordering.{nat_cmp}
use Rattle.std.specs.Cmp.Lexicographic.{slice_cmp}
use Rattle.std.specs.FinMap as files
use Rattle.r3_outside.specs.Contents.{FileMap}
use Rattle.r3_outside.specs.NameCounts.{NameCounts, name_counts_code}

-- the code of what files hold
abbrev pub file_map_code : Coded FileMap
file_map_code = files.code (coded_list coded_ℕ) (coded_list coded_ℕ)

-- the values of entries, each as it is shown, by the bytes of their names
abbrev pub by_name : {Y V X : Type 0} → (shown : V → X) → List (String Y × V) → files.FinMap (slice_cmp nat_cmp) X
by_name shown entries = files.from_entries (map (λ entry. (string_bytes entry.0, shown entry.1)) entries)

-- files that never fail: what they hold, and how many bytes were taken from each
pub record SureStore : Type 0 where
  pub files : FileMap
  pub taken : NameCounts

abbrev pub sure_store_code : Coded SureStore
sure_store_code =
    code_by (FileMap × NameCounts) (coded× file_map_code name_counts_code) (λ s. (s.files, s.taken))
    (λ p. record { files = p.0; taken = p.1 }) (λ _. refl)

-- files some of whose calls fail: what they hold, the numbers of those calls, the count of calls, and by name
-- the counts of faults and of bytes taken
pub record MemStore : Type 0 where
  pub files : FileMap
  pub failing : List ℕ
  pub calls : ℕ
  pub faults : NameCounts
  pub taken : NameCounts

abbrev pub mem_store_code : Coded MemStore
mem_store_code =
    code_by (FileMap × (List ℕ × (ℕ × (NameCounts × NameCounts))))
    (coded× file_map_code
    (coded× (coded_list coded_ℕ) (coded× coded_ℕ (coded× name_counts_code name_counts_code))))
    (λ s. (s.files, (s.failing, (s.calls, (s.faults, s.taken)))))
    (λ p. record { files = p.0; failing = p.1.0; calls = p.1.1.0; faults = p.1.1.1.0; taken = p.1.1.1.1 })
    (λ _. refl)

-- whether the next call on a name fails: by its number, or since the name is unknown
abbrev pub is_failing_read : MemStore → List ℕ → Bool
is_failing_read s name = list_any (λ n. n == s.calls) s.failing || not (files.contains_key s.files name)

-- a sink some of whose calls fail: what was written, the most bytes that it takes in a call, the numbers of
-- the calls that fail, and the counts of calls and of faults
pub record MemOutput : Type 0 where
  pub written : List ℕ
  pub most : ℕ
  pub failing : List ℕ
  pub calls : ℕ
  pub faults : ℕ

abbrev pub mem_output_code : Coded MemOutput
mem_output_code =
    code_by (List ℕ × (ℕ × (List ℕ × (ℕ × ℕ))))
    (coded× (coded_list coded_ℕ) (coded× coded_ℕ (coded× (coded_list coded_ℕ) (coded× coded_ℕ coded_ℕ))))
    (λ s. (s.written, (s.most, (s.failing, (s.calls, s.faults)))))
    (λ p. record { written = p.0; most = p.1.0; failing = p.1.1.0; calls = p.1.1.1.0; faults = p.1.1.1.1 })
    (λ _. refl)

-- whether the next call fails by its number
abbrev pub is_failing_write : MemOutput → Bool
is_failing_write s = list_any (λ n. n == s.calls) s.failing

-- files that show only, by name, how many calls failed and how many bytes were taken
pub record DiskCounts : Type 0 where
  pub faults : NameCounts
  pub taken : NameCounts

abbrev pub disk_counts_code : Coded DiskCounts
disk_counts_code =
    code_by (NameCounts × NameCounts) (coded× name_counts_code name_counts_code) (λ c. (c.faults, c.taken))
    (λ p. record { faults = p.0; taken = p.1 }) (λ _. refl)

-- a writer as a sink: the bytes that the writer holds, where it shows them, and the count of faults
pub record StdOutput : Type 0 where
  pub held : Option (List ℕ)
  pub faults : ℕ

abbrev pub std_output_code : Coded StdOutput
std_output_code =
    code_by (Option (List ℕ) × ℕ) (coded× (coded_option (coded_list coded_ℕ)) coded_ℕ) (λ s. (s.held, s.faults))
    (λ p. record { held = p.0; faults = p.1 }) (λ _. refl)
