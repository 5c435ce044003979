-- The arguments of a command line, and what they ask for.
use Rattle.std.specs.Prelude.{◌≡◌, ◌⊎◌, ℕ, ◌≤◌, Bool, true, false, List, [], ◌∷◌, length, map, String, string_bytes, codes, decimal}
use Rattle.std.specs.declared.alloc.Global.{Global}

-- what the arguments after the program's name may ask for
pub data Request : Type 0 where
  check : (dir : List ℕ) → (workers : ℕ) → Request
  run : (kernel dir : List ℕ) → (size : ℕ) → Request
  replay : (kernel dir : List ℕ) → Request
  show : (dir : List ℕ) → Request
  gen : (rounds workers : ℕ) → Request
  upgrade : (dir new : List ℕ) → Request
  explain : (dir : List ℕ) → (low high : ℕ) → Request
  confirm : (dir : List ℕ) → (first_row first second_row second : ℕ) → Request
  certify : (kernel : List ℕ) → Request

-- a word that names a folder or a file has 1 to 1,024 bytes
pub record IsName (word : List ℕ) : Type 0 where
  pub some : 1 ≤ length word
  pub limit : length word ≤ 1024

-- the word is this number in decimal digits without a leading zero, and it lies within these limits
pub record IsNumber (word : List ℕ) (low high n : ℕ) : Type 0 where
  pub digits : word ≡ decimal n
  pub least : low ≤ n
  pub most : n ≤ high

pub record SaysCheck (arguments : List (List ℕ)) (dir : List ℕ) (workers : ℕ) : Type 0 where
  pub number : List ℕ
  pub are : arguments ≡ codes "check" ∷ dir ∷ number ∷ []
  pub dir_is : IsName dir
  pub workers_are : IsNumber number 1 64 workers

-- a run is asked for by one of two names: with teams whose threads stay, or without
abbrev pub run_name : Bool → List ℕ
run_name true = codes "live"
run_name false = codes "run"

pub record SaysRun (arguments : List (List ℕ)) (kernel dir : List ℕ) (size : ℕ) : Type 0 where
  pub number : List ℕ
  pub stays : Bool
  pub are : arguments ≡ run_name stays ∷ kernel ∷ dir ∷ number ∷ []
  pub kernel_is : IsName kernel
  pub dir_is : IsName dir
  pub size_is : IsNumber number 24 4194304 size

-- the arguments ask for a run
pub record AsksRun (arguments : List (List ℕ)) : Type 0 where
  pub kernel : List ℕ
  pub dir : List ℕ
  pub size : ℕ
  pub says : SaysRun arguments kernel dir size

pub record SaysReplay (arguments : List (List ℕ)) (kernel dir : List ℕ) : Type 0 where
  pub are : arguments ≡ codes "replay" ∷ kernel ∷ dir ∷ []
  pub kernel_is : IsName kernel
  pub dir_is : IsName dir

pub record SaysShow (arguments : List (List ℕ)) (dir : List ℕ) : Type 0 where
  pub are : arguments ≡ codes "show" ∷ dir ∷ []
  pub dir_is : IsName dir

pub record SaysGen (arguments : List (List ℕ)) (rounds workers : ℕ) : Type 0 where
  pub rounds_number : List ℕ
  pub workers_number : List ℕ
  pub are : arguments ≡ codes "gen" ∷ rounds_number ∷ workers_number ∷ []
  pub rounds_are : IsNumber rounds_number 1 100000 rounds
  pub workers_are : IsNumber workers_number 1 64 workers

pub record SaysUpgrade (arguments : List (List ℕ)) (dir new : List ℕ) : Type 0 where
  pub are : arguments ≡ codes "upgrade" ∷ dir ∷ new ∷ []
  pub dir_is : IsName dir
  pub new_is : IsName new

-- two lines, the smaller first
pub record SaysExplain (arguments : List (List ℕ)) (dir : List ℕ) (low high : ℕ) : Type 0 where
  pub low_number : List ℕ
  pub high_number : List ℕ
  pub are : arguments ≡ codes "explain" ∷ dir ∷ low_number ∷ high_number ∷ []
  pub dir_is : IsName dir
  pub low_is : IsNumber low_number 1 4294967295 low
  pub high_is : IsNumber high_number 1 4294967295 high
  pub in_order : low ≤ high

-- two records, each by its row and its number
pub record SaysConfirm (arguments : List (List ℕ)) (dir : List ℕ) (first_row first second_row second : ℕ) : Type 0 where
  pub row : List ℕ
  pub number : List ℕ
  pub other_row : List ℕ
  pub other_number : List ℕ
  pub are : arguments ≡ codes "confirm" ∷ dir ∷ row ∷ number ∷ other_row ∷ other_number ∷ []
  pub dir_is : IsName dir
  pub row_is : IsNumber row 1 65536 first_row
  pub number_is : IsNumber number 1 4194304 first
  pub other_row_is : IsNumber other_row 1 65536 second_row
  pub other_number_is : IsNumber other_number 1 4194304 second

pub record SaysCertify (arguments : List (List ℕ)) (kernel : List ℕ) : Type 0 where
  pub are : arguments ≡ codes "certify" ∷ kernel ∷ []
  pub kernel_is : IsName kernel

-- the arguments ask what the run of this folder tells
pub data AsksOfRun (arguments : List (List ℕ)) (dir : List ℕ) : Type 0 where
  to_check : (workers : ℕ) → SaysCheck arguments dir workers → AsksOfRun arguments dir
  to_show : SaysShow arguments dir → AsksOfRun arguments dir
  to_explain : (low high : ℕ) → SaysExplain arguments dir low high → AsksOfRun arguments dir
  to_confirm : (first_row first second_row second : ℕ) → SaysConfirm arguments dir first_row first second_row second → AsksOfRun arguments dir

-- the arguments ask to bring a folder over
pub record AsksUpgrade (arguments : List (List ℕ)) : Type 0 where
  pub dir : List ℕ
  pub new : List ℕ
  pub says : SaysUpgrade arguments dir new

-- the arguments ask for a command that writes
abbrev pub AsksToWrite : List (List ℕ) → Type 0
AsksToWrite arguments = AsksRun arguments ⊎ AsksUpgrade arguments

-- the arguments ask for it
abbrev pub Says : List (List ℕ) → Request → Type 0
Says arguments (check dir workers) = SaysCheck arguments dir workers
Says arguments (run kernel dir size) = SaysRun arguments kernel dir size
Says arguments (replay kernel dir) = SaysReplay arguments kernel dir
Says arguments (show dir) = SaysShow arguments dir
Says arguments (gen rounds workers) = SaysGen arguments rounds workers
Says arguments (upgrade dir new) = SaysUpgrade arguments dir new
Says arguments (explain dir low high) = SaysExplain arguments dir low high
Says arguments (confirm dir first_row first second_row second) = SaysConfirm arguments dir first_row first second_row second
Says arguments (certify kernel) = SaysCertify arguments kernel

-- the request reads a folder, or a kernel's file
abbrev pub IsToRead : Request → Type 0
IsToRead (gen rounds workers) = ⊥
IsToRead _ = Unit {0}

-- the arguments ask for a command that reads
pub record AsksToRead (arguments : List (List ℕ)) : Type 0 where
  pub request : Request
  pub says : Says arguments request
  pub reads : IsToRead request

-- the arguments ask for nothing
abbrev pub IsUsage : List (List ℕ) → Type 0
IsUsage arguments = (request : Request) → Says arguments request → ⊥

-- the bytes of each word
abbrev pub texts : List (String Global) → List (List ℕ)
texts arguments = map string_bytes arguments
