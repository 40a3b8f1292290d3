-- The words of a call: the name of a command, the files of the job in sequence, and its numbers in decimal.
use Rattle.std.specs.Prelude.{◌≡◌, ℕ, ◌≤◌, List, [], ◌∷◌, ◌++◌, map, decimal, String, string_bytes}
use Rattle.std.specs.Borrow.{Bor}
use Rattle.r3_core.specs.declared.words.NumberRange.{NumberRange}
use Rattle.r3_core.specs.declared.jobs.Job.{Job}
use Rattle.r3_core.specs.Jobs.{form, map_files}

-- the bytes of each word
abbrev pub texts : {Y : Type 0} → List (String Y) → List (List ℕ)
texts words = map string_bytes words

-- the job, with the bytes of the names of its files
abbrev pub named : {Y : Type 0} → Job (Bor (String Y)) → Job (List ℕ)
named job = map_files (λ name. string_bytes name.now) job

-- the word is the number in decimal, without a sign and leading zeros, and the number is in the range
pub record IsNumber (range : NumberRange) (word : List ℕ) (number : ℕ) : Type 0 where
  pub digits : word ≡ decimal number
  pub low : range.least ≤ number
  pub high : number ≤ range.most

-- each number is in its range
abbrev pub AreInRange : List (ℕ × NumberRange) → Type 0
AreInRange [] = Unit {0}
AreInRange (number ∷ numbers) =
    ((number.1.least ≤ number.0) × (number.0 ≤ number.1.most)) × AreInRange numbers

-- a job in words: the name of its command, its files in sequence, and its numbers in decimal, without a sign and
-- leading zeros
abbrev pub words_of : Job (List ℕ) → List (List ℕ)
words_of job =
    (form job).name
    ∷ (map (λ file. file.0) (form job).files ++ map (λ number. decimal number.0) (form job).numbers)

-- words say a job: they are the job in words, and each of its numbers is in its range
pub record Says (words : List (List ℕ)) (job : Job (List ℕ)) : Type 0 where
  pub parts : words ≡ words_of job
  pub in_range : AreInRange (form job).numbers

-- the words are a listed call: they say a job
abbrev pub IsListed : List (List ℕ) → Type 0
IsListed words = (job : Job (List ℕ)) × Says words job
