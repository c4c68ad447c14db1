-- The holders that a house declares.
use Rattle.std.specs.Prelude.{ℕ, ◌&&◌, nat_le, if◌then◌else◌, List, map, replicate, Option, Some, None}
use Rattle.std.specs.List.{filter_map, find}
use Rattle.std.specs.Str.{bytes_eq}
use Rattle.dh_base.specs.declared.id.Id.{Id}
use Rattle.holder_names.specs.Directories.{Listed}
use Rattle.holder_names.specs.Holders.{account_of}
use Rattle.house_grammar.specs.declared.holder_line.Conduct.{Conduct}
use Rattle.house_grammar.specs.declared.holder_line.KeySize.{KeySize}
use Rattle.house_grammar.specs.declared.holder_line.KeySize.TheVariants.{Ring, TreeOfHeight5, TreeOfHeight10}
use Rattle.house_grammar.specs.declared.declaration.Declaration.{Declaration}
use Rattle.house_grammar.specs.declared.declaration.Declaration.TheVariants.{Party, Seat}

-- a party or a seat: its name, whether it keeps to its program, how many keys it has, and its
-- account
pub record HolderTold : Type 0 where
  pub name : List ℕ
  pub conduct : Conduct
  pub size : ℕ
  pub account : Id

abbrev pub size_within : ℕ → Option ℕ
size_within n = if nat_le 1 n && nat_le n 64 then Some n else None

-- how many keys a ring has: 1 to 64
abbrev pub ring_size : KeySize → Option ℕ
ring_size (Ring (Some n)) = size_within n
ring_size (Ring None) = None
ring_size TreeOfHeight5 = None
ring_size TreeOfHeight10 = None

abbrev pub holder_sized : List ℕ → Conduct → Option ℕ → Option HolderTold
holder_sized name conduct None = None
holder_sized name conduct (Some size) =
    Some (record {
      name = name;
      conduct = conduct;
      size = size;
      account = account_of name size;
    })

-- the holder that a line declares
abbrev pub holder_by : Declaration → Option HolderTold
holder_by (Party name conduct size) = holder_sized name conduct (ring_size size)
holder_by (Seat name conduct size) = holder_sized name conduct (ring_size size)
holder_by _ = None

-- in the order of the lines
abbrev pub holders_of : List Declaration → List HolderTold
holders_of ds = filter_map holder_by ds

abbrev pub holder_named : List HolderTold → List ℕ → Option HolderTold
holder_named holders name = find (λ (holder : HolderTold). bytes_eq name holder.name) holders

abbrev pub account_if : Option HolderTold → Id
account_if None = record { 0 = replicate 32 0 }
account_if (Some holder) = holder.account

-- the account of the name, and zeros where nobody has the name
abbrev pub account_named : List HolderTold → List ℕ → Id
account_named holders name = account_if (holder_named holders name)

-- each account with its name
abbrev pub directory_of : List HolderTold → List Listed
directory_of holders = map (λ (holder : HolderTold). (holder.account, holder.name)) holders
