pub mod boot_machine
