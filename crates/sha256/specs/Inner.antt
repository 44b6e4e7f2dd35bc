-- No part of FIPS 180-4: what the code keeps on its way.
-- the schedule in sixteen words
pub mod Ring
