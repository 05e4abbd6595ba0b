-- The address space as a user sees it, who may update histories or only read (Part 4, 5.11; Part 3,
-- 5.6).
use Rattle.std.specs.Prelude.{ℕ, List, Result}
use Rattle.ua_binary.specs.declared.codes.Status.{Status}
use Rattle.ua_binary.specs.declared.values.NodeId.{NodeId}
use Rattle.ua_session.specs.declared.identity.Access.{Access}
use Rattle.ua_session.specs.Users.{access_of}
use Rattle.ua_space.specs.declared.attributes.Answered.{Answered}
use Rattle.ua_space.specs.declared.layout.Layout.{Layout}
use Rattle.ua_space.specs.Attributes.{attribute_at}
use Rattle.ua_settings.specs.Settings.{SettingsValues}
use Rattle.historian.specs.declared.user_space.UserSpace.{UserSpace as Lent}

-- the nodes, for a user who may do this
pub record UserSpace : Type 0 where
  pub layout : Layout
  pub access : Access

-- these nodes, for a user who may do this
abbrev pub seen_by : Layout → Access → UserSpace
seen_by layout access = record { layout = layout; access = access }

-- those of a server, for the user of this name
abbrev pub space_for : SettingsValues → List ℕ → UserSpace
space_for settings user =
    record { layout = settings.space; access = access_of settings.users user }

-- without where the nodes lie in memory
abbrev pub user_space_of : Lent → UserSpace
user_space_of lent = record { layout = lent.space.now; access = lent.access }

-- an attribute of the node of an id, as the user sees it
abbrev pub seen_attribute : UserSpace → NodeId → ℕ → Result Answered Status
seen_attribute seen id number = attribute_at seen.layout seen.access id number
