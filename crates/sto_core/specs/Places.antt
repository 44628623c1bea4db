-- Which part or word of its pass's contents an event names.
use Rattle.std.specs.Prelude.{◌≡◌, ℕ}
use Rattle.sto_core.specs.declared.view.View.{View}
use Rattle.sto_core.specs.Event.{Event, Start, Open, Word, Close, Lock, Test, Check, Put, Release, Unlock, Renew}
use Rattle.sto_core.specs.Event.{Recheck}
use Rattle.sto_core.specs.Allowed.{HasPart, HasWord}

-- the event loads the clock
abbrev pub LoadsClock : Event → Type 0
LoadsClock Start = Unit {0}
LoadsClock Renew = Unit {0}
LoadsClock e = ⊥

-- the event loads the version of the part
abbrev pub LoadsVersion : Event → ℕ → Type 0
LoadsVersion (Open q) p = q ≡ p
LoadsVersion (Close q) p = q ≡ p
LoadsVersion (Recheck q) p = q ≡ p
LoadsVersion (Test q) p = q ≡ p
LoadsVersion (Check q) p = q ≡ p
LoadsVersion e p = ⊥

-- what the event names is a part, or a word of one, of the pass's contents
abbrev pub HasPlace : Event → View → Type 0
HasPlace (Open p) v = HasPart v p
HasPlace (Word p i) v = HasWord v p i
HasPlace (Close p) v = HasPart v p
HasPlace (Recheck p) v = HasPart v p
HasPlace (Lock p) v = HasPart v p
HasPlace (Test p) v = HasPart v p
HasPlace (Check p) v = HasPart v p
HasPlace (Put p i x) v = HasWord v p i
HasPlace (Release p) v = HasPart v p
HasPlace (Unlock p) v = HasPart v p
HasPlace e v = Unit {0}
